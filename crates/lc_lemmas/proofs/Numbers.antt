-- Numbers and their tests.
use Rattle.std.proofs.Common.{arith, ◌≡◌, ℕ, ◌==◌, true, ◌+◌, ◌<◌, ◌≤◌, false, Bool, sym, eq-eqb, ◌⊎◌, inl, inr, eqb, refl, zero, suc, subst, rules}
use Rattle.std.specs.Prelude.{pos, FitsSigned, ℤ, ◌*ℤ◌, nat_lt}
use Rattle.std.specs.Int.{w128}
use Rattle.std.proofs.lemmas.Int.{ints}
use Rattle.std.proofs.lemmas.Bool.Decides.{nat_tests, eqb_tells}
use Rattle.std.proofs.lemmas.Bool.{eqb-true}

pub zero_fits : FitsSigned w128 (pos 0)
zero_fits = omega (arith, ints)

pub equal_to_itself : (c : ℕ) → (c == c) ≡ true
equal_to_itself c = grind (arith, nat_tests)

pub swapped_sum : (a b m : ℕ) → a + (b + m) ≡ b + (a + m)
swapped_sum a b m = omega arith

pub above_from_test : (m n : ℕ) → (m == n) ≡ false → n ≤ m → n < m
above_from_test m n h g = grind (arith, nat_tests)

-- two numbers differ either way round
pub swapped : (a b : ℕ) → (a == b) ≡ false → (b == a) ≡ false
swapped a b e = grind (arith, nat_tests)

-- and so they are tested
pub flipped_test : (a b : ℕ) (x : Bool) → (a == b) ≡ x → (b == a) ≡ x
flipped_test a b true e = eq-eqb b a (sym (eqb-true a b e))
flipped_test a b false e = swapped a b e

pub below_or_here : (j k : ℕ) → k ≤ j → (j ≡ k) ⊎ (k + 1 ≤ j)
below_or_here j k le = elim (eqb j k) as (λ b. eqb j k ≡ b → (j ≡ k) ⊎ (k + 1 ≤ j)) [
  | true ↦ λ e. inl (eqb-true j k e)
  | false ↦ λ e. inr (grind (arith, nat_tests))
] refl

pub below_or_from : (j k : ℕ) → (j < k) ⊎ (k ≤ j)
below_or_from j zero = inr (omega arith)
below_or_from zero (suc k) = inl (omega arith)
below_or_from (suc j) (suc k) = elim (below_or_from j k) [ inl h ↦ inl (omega arith) | inr h ↦ inr (omega arith) ]

pub equal_other_way : (c d : ℕ) → (d == c) ≡ true → d ≡ c
equal_other_way c d e = elim (eqb_tells d c) [ inl h ↦ h.1 | inr h ↦ absurd (cc (h.0, e)) ]

pub zero_scaled : (k : ℤ) → pos 0 ≡ k *ℤ pos 0
zero_scaled k = omega (arith, ints)

pub scaled_zero : (k : ℤ) → k *ℤ pos 0 ≡ pos 0
scaled_zero k = omega (arith, ints)

pub scaled_zero_fits : (k : ℤ) → FitsSigned w128 (k *ℤ pos 0)
scaled_zero_fits k = let zero_is : FitsSigned w128 (pos 0) = search rules in subst (FitsSigned w128) (sym (scaled_zero k)) zero_is

pub at_least_from_test : (n m : ℕ) → nat_lt n m ≡ false → m ≤ n
at_least_from_test n m h = grind (arith, nat_tests)

pub later_test : (p k : ℕ) → nat_lt p k ≡ nat_lt (suc p) (suc k)
later_test p k = grind (arith, nat_tests)

pub first_test : (k : ℕ) → true ≡ nat_lt 0 (suc k)
first_test k = grind (arith, nat_tests)

pub below_from_test : (k n : ℕ) → nat_lt k n ≡ true → k < n
below_from_test k n e = grind (arith, nat_tests)

pub at_most_from_test : (k limit : ℕ) → nat_lt limit k ≡ false → k ≤ limit
at_most_from_test k limit e = grind (arith, nat_tests)

pub test_from_below : (k n : ℕ) → k < n → nat_lt k n ≡ true
test_from_below k n h = grind (arith, nat_tests)
