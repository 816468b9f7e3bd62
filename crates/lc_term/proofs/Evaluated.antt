-- The parts of a conjunction or a disjunction, computed one after another, and what an answer means.
use Rattle.std.proofs.Common.{◌≡◌, ℕ, Bool, List, drop, sym, subst}
use Rattle.std.specs.Prelude.{IsTrue, Result, Ok, Err, OkIff, IfOk}
use Rattle.std.specs.Bool.{Decides}
use Rattle.lc_term.specs.Syntax.{Formulas, formulas}
use Rattle.lc_term.specs.Places.{are_known}
use Rattle.lc_term.specs.Truth.{are_ground}
use Rattle.lc_term.specs.View.{formulas_of}
use Rattle.lc_term.specs.declared.formula.Formula.{Formula}

-- the parts from i on
abbrev pub parts_from : List Formula → ℕ → Formulas
parts_from fs i = formulas (formulas_of (drop i fs))

-- the parts that are left have no quantifiers, and columns and variables below these counts
pub record MayCompute (columns variables : ℕ) (rest : Formulas) : Type 0 where
  pub ground : IsTrue (are_ground rest)
  pub in_range : IsTrue (are_known columns variables rest)

-- the parts that are left decide the answer, and are reached
pub record DecideFor (test : Formulas → Bool) (fits : Formulas → Type 0) (whole rest : Formulas) : Type 0 where
  pub same : test whole ≡ test rest
  pub rest_fits : fits whole → fits rest
  pub whole_fits : fits rest → fits whole

-- an answer that is computed says what it decides
pub answer_means : {E : Type 0} (r : Result Bool E) (P : Type 0) (answer : Bool) (H : Type 0) → OkIff r P answer → Decides answer H → IfOk r (λ b. Decides b H)
answer_means (Ok b) P answer H h d = subst (λ x. Decides x H) (sym h.1) d
answer_means (Err e) P answer H h d = tt
