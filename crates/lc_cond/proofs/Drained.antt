-- The conditions of the parts that a stream gave, one part after another.
use Rattle.std.proofs.Common.{◌≡◌, List, [], ◌++◌, map, refl, sym, subst, ap, ◌∙◌, append_assoc, append-nil}
use Rattle.lc_table.specs.NodeTables.{Table}
use Rattle.lc_table.specs.Tables.{Keeps}
use Rattle.lc_outline.specs.Development.{Development}
use Rattle.lc_cond.specs.Conditions as S
use Rattle.lc_cond.specs.Conditions.{conditions}
use Rattle.lc_cond.specs.ConditionView.{condition_in, AreConditions}
use Rattle.lc_cond.specs.Adding.{Adds}
use Rattle.lc_cond.specs.Stream.{conditions_left, IsPart}
use Rattle.lc_cond.specs.declared.condition.Condition.{Condition}
use Rattle.lc_cond.specs.declared.stream.ConditionStream.{ConditionStream}
use Rattle.lc_cond.proofs.Adding.{adds_later, adds_nothing, adds_on, adds_to_none}

-- the first conditions were given, and these are listed; the others are left
pub record IsDrained (D : Development) (ts : Table) (cs : List Condition) (s : ConditionStream) : Type 0 where
  pub given : List S.Condition
  pub adds : Adds [] ts cs given
  pub all : conditions D ≡ given ++ conditions_left D s

pub drained_none : (D : Development) (ts : Table) (cs : List Condition) (s : ConditionStream) → cs ≡ [] → conditions_left D s ≡ conditions D → IsDrained D ts cs s
drained_none D ts cs s none left = record { given = []; adds = subst (λ l. Adds [] ts l []) (sym none) (adds_nothing [] ts); all = sym left }

pub drained_more : (D : Development) (old new : Table) (cs now part : List Condition) (before after : ConditionStream) → IsDrained D old cs before → Keeps old new → IsPart D new before after part → now ≡ cs ++ part → IsDrained D new now after
drained_more D old new cs now part before after h kept p joins =
    let said = map (condition_in new) part in
    record {
      given = h.given ++ said;
      adds = adds_on [] cs now old new h.given said h.adds kept (record { added = part; behind = joins; are = p.are; read = refl });
      all = h.all ∙ ap (λ l. h.given ++ l) p.left ∙ sym (append_assoc h.given said (conditions_left D after));
    }

pub drained_all : (D : Development) (old new : Table) (cs : List Condition) (s : ConditionStream) → IsDrained D old cs s → Keeps old new → conditions_left D s ≡ [] → AreConditions new cs × (map (condition_in new) cs ≡ conditions D)
drained_all D old new cs s h kept none =
    adds_to_none new cs (conditions D) (subst (Adds [] new cs) (sym (h.all ∙ ap (λ l. h.given ++ l) none ∙ append-nil h.given)) (adds_later [] old new cs h.given h.adds kept))
