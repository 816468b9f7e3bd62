-- Valid conditions.
use Rattle.lc_term.specs.Lists.{Every}
use Rattle.lc_term.specs.Meaning.{Valid}
use Rattle.lc_outline.specs.Development.{Development}
use Rattle.lc_cond.specs.Conditions.{Condition, conditions}

abbrev pub IsValid : Condition → Type 0
IsValid c = Valid c.hypotheses c.goal

-- all conditions of a development are valid
abbrev pub AreValid : Development → Type 0
AreValid D = Every IsValid (conditions D)
