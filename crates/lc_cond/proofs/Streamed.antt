-- The next part of a list that is given part by part.
use Rattle.std.proofs.Common.{◌≡◌, ℕ, suc, Option, Some, None, List, [], ◌∷◌, ◌++◌, map, option_map, length, slice_get, drop, refl, sym, ap, ◌∙◌}
use Rattle.std.specs.Prelude.{Vec}
use Rattle.std.specs.declared.alloc.Global.{Global}
use Rattle.lc_term.specs.Lists.{concat_map}
use Rattle.lc_table.specs.NodeTables.{Table}
use Rattle.lc_outline.specs.Development.{Development}
use Rattle.lc_cond.specs.Conditions as S
use Rattle.lc_cond.specs.Conditions.{conditions_in}
use Rattle.lc_cond.specs.ConditionView.{condition_in, AreConditions}
use Rattle.lc_cond.specs.Adding.{Adds}
use Rattle.lc_cond.specs.PartView.{part_of}
use Rattle.lc_cond.specs.Stream.{IsNextPart, IsEnd}
use Rattle.lc_cond.specs.declared.part.Part.{Part}
use Rattle.lc_cond.specs.declared.stream.ConditionStream.{ConditionStream}
use Rattle.lc_cond.specs.declared.condition.Condition.{Condition}
use Rattle.lc_cond.proofs.Adding.{adds_to_none}
use Rattle.lc_cond.proofs.Parted.{drop_one, drop_past}

-- what is left of these parts from a place on
abbrev pub left_from : Development → List S.Part → ℕ → List S.Condition
left_from D ps k = concat_map (conditions_in D) (drop k ps)

-- a part that exists was given
pub part_given : (D : Development) (ps : List S.Part) (k next : ℕ) (p : S.Part) (ts : Table) (now : List Condition) → slice_get ps k ≡ Some p → next ≡ suc k → Adds [] ts now (conditions_in D p) →
    AreConditions ts now × ((left_from D ps k ≡ map (condition_in ts) now ++ left_from D ps next) × (suc (length (drop next ps)) ≡ length (drop k ps)))
part_given D ps k next p ts now at is adds =
    let one = drop_one ps k p at ∙ ap (λ n. p ∷ drop n ps) (sym is) in
    let all = adds_to_none ts now (conditions_in D p) adds in
    (all.0, (ap (concat_map (conditions_in D)) one ∙ ap (λ cs. cs ++ left_from D ps next) (sym all.1), sym (ap length one)))

-- there is no part
pub none_left : (D : Development) (ps : List S.Part) (k : ℕ) → slice_get ps k ≡ None → (left_from D ps k ≡ []) × (length (drop k ps) ≡ 0)
none_left D ps k at =
    let past = drop_past ps k at in
    (ap (concat_map (conditions_in D)) past, ap length past)

-- what is read is no part
pub no_part_read : (o : Option Part) (s : Option S.Part) → ((p : Part) → o ≡ Some p → ⊥) → option_map part_of o ≡ s → s ≡ None
no_part_read None s h e = sym e
no_part_read (Some p) s h e = absurd (h p refl)

-- if no part is given, nothing is left
pub no_part_ends : (d : Development) (ts : Table) (before after : ConditionStream) (part : Option (Vec Condition Global)) → ((cs : Vec Condition Global) → part ≡ Some cs → ⊥) → IsNextPart d ts before after part
    → IsEnd d before after
no_part_ends d ts before after None none next = next
no_part_ends d ts before after (Some cs) none next = absurd (none cs refl)
