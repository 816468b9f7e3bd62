-- What is in scope passes tests that ask for less.
use Rattle.std.proofs.Common.{◌≡◌, ℕ, ◌<◌, true, false, refl, arith}
use Rattle.std.proofs.lemmas.Bool.Decides.{nat_tests}
use Rattle.std.specs.Prelude.{nat_lt}
use Rattle.lc_term.specs.Places.{known, is_known, term_passes}
use Rattle.lc_term.specs.Syntax.{Term, Formula}
use Rattle.lc_term.specs.Truth.{is_ground}
use Rattle.lc_term.proofs.Weaker.{weaker_term, weaker_formula, weaker_ground}
use Rattle.lc_outline.specs.Resolved.{variables_below, IsBelow, IsTermBelow}
use Rattle.lc_outline.specs.Scope.{scope, is_scoped}

pub scoped_below : (columns n : ℕ) (f : Formula) → is_scoped columns n f ≡ true → IsBelow n f
scoped_below columns n f h =
    weaker_formula (scope columns n) (λ k. variables_below n) (λ m. record { columns = λ k e. refl; variables = λ k e. e; bounds = λ k e. refl }) 0 f h

pub known_below : (columns n : ℕ) (t : Term) → term_passes (known columns n) t ≡ true → IsTermBelow n t
known_below columns n t h = weaker_term (known columns n) (variables_below n) (record { columns = λ k e. refl; variables = λ k e. e; bounds = λ k e. refl }) t h

none_bound : (k : ℕ) → nat_lt k 0 ≡ true → false ≡ true
none_bound k e = let below : k < 0 = grind (arith, nat_tests) in absurd (omega (arith, below))

pub scoped_term : (columns variables : ℕ) (t : Term) → term_passes (scope columns variables 0) t ≡ true → term_passes (known columns variables) t ≡ true
scoped_term columns variables t h = weaker_term (scope columns variables 0) (known columns variables) (record { columns = λ k e. e; variables = λ k e. e; bounds = none_bound }) t h

pub scoped_known : (columns variables : ℕ) (f : Formula) → is_ground f ≡ true → is_scoped columns variables f ≡ true → is_known columns variables f ≡ true
scoped_known columns variables f g h =
    weaker_ground (scope columns variables) (λ n. known columns variables) (record { columns = λ k e. e; variables = λ k e. e; bounds = none_bound }) f g h
