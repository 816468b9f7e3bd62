-- What a worker finds of a condition that is laid out.
use Rattle.std.proofs.Common.{◌≡◌, ℕ, zero, suc, ◌+◌, ◌<◌, List, [], ◌∷◌, map, length, get_or, Some, slice_get, sym, ap, ◌∙◌, arith}
use Rattle.lc_table.specs.NodeTables.{Table}
use Rattle.lc_table.specs.Tables.{Keeps}
use Rattle.lc_outline.specs.Development.{Development}
use Rattle.lc_cond.specs.Conditions as S
use Rattle.lc_cond.specs.Conditions.{conditions}
use Rattle.lc_cond.specs.ConditionView.{condition_in}
use Rattle.lc_cond.specs.Uses.{AllUseTheirVariables}
use Rattle.lc_cond.specs.VariableCounts.{AllHaveFewVariables}
use Rattle.lc_cond.specs.declared.condition.Condition.{Condition}
use Rattle.lc_cond.specs.declared.numbering.NumberedPart.{NumberedPart}
use Rattle.lc_check.proofs.Walking.{all_bounded}
use Rattle.lc_check.specs.Answers.{IsBounded}
use Rattle.lc_pool.specs.Desks.{IsLaid}
use Rattle.lc_pool.specs.declared.laid.Laid.{Laid}
use Rattle.lc_cond.proofs.Adding.{are_later, conditions_still}
use Rattle.lc_cond.proofs.Sized.{every_at}

-- the condition at a place of the part
seen_at : (ts : Table) (cs : List Condition) (j : ℕ) (x : Condition) → j < length cs → x ≡ get_or cs j x → slice_get (map (condition_in ts) cs) j ≡ Some (condition_in ts x)
seen_at ts [] j x lt is = absurd (omega (arith, lt))
seen_at ts (y ∷ cs) zero x lt is = ap (λ z. Some (condition_in ts z)) (sym is)
seen_at ts (y ∷ cs) (suc j) x lt is = seen_at ts cs j x (omega (arith, lt)) is

-- it is the condition of this number
pub due_at : (D : Development) (l : Laid) (k j : ℕ) (x : Condition) → IsLaid D l → k ≡ l.part.first + j → j < length l.part.conditions.items → x ≡ get_or l.part.conditions.items j x
    → slice_get (conditions D) k ≡ Some (condition_in l.terms x)
due_at D l k j x h is lt at = ap (slice_get (conditions D)) is ∙ h.stand j (condition_in l.terms x) (seen_at l.terms l.part.conditions.items j x lt at)

pub bounded_at : (D : Development) (k : ℕ) (c : S.Condition) → AllUseTheirVariables D → AllHaveFewVariables D → slice_get (conditions D) k ≡ Some c → IsBounded c
bounded_at D k c uses few at = every_at IsBounded (conditions D) k c (all_bounded (conditions D) uses few) at

-- the table has grown
pub still_laid : (D : Development) (part : NumberedPart) (old new : Table) → Keeps old new → IsLaid D (record { terms = old; part = part }) → IsLaid D (record { terms = new; part = part })
still_laid D part old new kept h = record {
  are = are_later old new part.conditions.items h.are kept;
  stand = λ j x at. h.stand j x (ap (λ l. slice_get l j) (sym (conditions_still old new part.conditions.items h.are kept)) ∙ at);
}
