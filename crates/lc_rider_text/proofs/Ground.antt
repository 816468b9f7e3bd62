-- Where no quantifier is allowed, a formula has none.
use Rattle.std.proofs.Common.{◌≡◌, ℕ, true, [], Option, Some, None, IfSome, refl}
use Rattle.std.proofs.lemmas.Bool.{and_from}
use Rattle.lc_sexp.specs.Trees.{Tree}
use Rattle.lc_reading.specs.Readings.{fine}
use Rattle.lc_reading.proofs.Holding.{Holds, holds_of_fine}
use Rattle.lc_term.specs.Syntax.{Formula}
use Rattle.lc_term.specs.Truth.{is_ground, are_ground}
use Rattle.lc_text.specs.Formulas.{formula_reading}
use Rattle.lc_text.specs.Names.{Names}
use Rattle.lc_text.specs.declared.scope.ColumnUse.{ColumnUse}
use Rattle.lc_text.specs.declared.scope.ColumnUse.TheVariants.{Usable, Misplaced, Hidden, Undeclared}
use Rattle.lc_text.proofs.ReadHolds.{OfUsable, Kept, formula_holds}
use Rattle.lc_rider_text.specs.Scopes.{quiet}

any_use : (u : ColumnUse) → OfUsable (λ c. Unit {0}) u
any_use (Usable c) = tt
any_use Misplaced = tt
any_use Hidden = tt
any_use Undeclared = tt

any_number : (o : Option ℕ) → IfSome o (λ k. Unit {0})
any_number None = tt
any_number (Some k) = tt

-- no quantifier occurs in what is built of parts without them
kept : (names : Names) → Kept (quiet names) (λ t. Unit {0}) (λ c. Unit {0}) (λ f. is_ground f ≡ true) (λ fs. are_ground fs ≡ true)
kept names = record {
  plain = λ extra. refl;
  variables = λ w. any_number (names.variable w);
  columns = λ w. any_use (names.column w);
  numbers = λ z. tt;
  sums = λ t u h g. tt;
  differences = λ t u h g. tt;
  multiples = λ z t h. tt;
  reads = λ c t h g. tt;
  orders = λ t u h g. refl;
  equations = λ t u h g. refl;
  negations = λ f h. h;
  conjunctions = λ fs h. h;
  disjunctions = λ fs h. h;
  implications = λ f g h k. and_from (is_ground f) (is_ground g) h k;
  no_parts = refl;
  more_parts = λ f fs h k. and_from (is_ground f) (are_ground fs) h k;
}

pub quiet_holds : (names : Names) (n : ℕ) (t : Tree) → Holds (λ f. is_ground f ≡ true) (formula_reading (quiet names) [] n t)
quiet_holds names n t = formula_holds (quiet names) (λ t. Unit {0}) (λ c. Unit {0}) (λ f. is_ground f ≡ true) (λ fs. are_ground fs ≡ true) (kept names) n t

pub quiet_ground : (names : Names) (n : ℕ) (t : Tree) (f : Formula) → formula_reading (quiet names) [] n t ≡ fine f → is_ground f ≡ true
quiet_ground names n t f e = holds_of_fine (λ f. is_ground f ≡ true) (formula_reading (quiet names) [] n t) f (quiet_holds names n t) e
