-- Derived conditions.
use Rattle.std.specs.Prelude.{IsTrue}
use Rattle.lc_term.specs.Lists.{Every}
use Rattle.lc_kernel.specs.Below.{all_below, formula_below}
use Rattle.lc_kernel.specs.Derivation.{DerivesGoal}
use Rattle.lc_kernel.specs.Proofs.{Proof}
use Rattle.lc_outline.specs.Development.{Development}
use Rattle.lc_cond.specs.Conditions.{Condition, conditions}

-- a condition has no variables but those that it counts, and a derivation
pub record IsDerived (c : Condition) : Type 0 where
  pub hypotheses : IsTrue (all_below c.variables c.hypotheses)
  pub goal : IsTrue (formula_below c.variables c.goal)
  pub proof : Proof
  pub derives : DerivesGoal c.variables c.hypotheses c.goal proof

-- each condition of a development has a derivation
abbrev pub AreDerived : Development → Type 0
AreDerived D = Every IsDerived (conditions D)
