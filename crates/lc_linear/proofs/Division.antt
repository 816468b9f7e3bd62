-- Quotients of whole numbers by a number that is at least 1.
use Rattle.std.proofs.Common.{◌≡◌, ℕ, zero, suc, ◌*◌, ◌<◌, ap, subst, ◌∙◌, to_z, of_z, arith}
use Rattle.std.specs.Prelude.{ℤ, pos, negsuc, ◌+ℤ◌, ◌-ℤ◌, ◌*ℤ◌, ◌≤ℤ◌, ◌<ℤ◌, FitsSigned, int_div, int_rem, unsigned_abs}
use Rattle.std.specs.Int.{w128}
use Rattle.std.proofs.lemmas.Int.{ints, quot-rem, rem_below, quot_is, rem_is, quot_fits, unsigned_abs-mul}
use Rattle.std.proofs.lemmas.Nat.{mul-le}
use Rattle.lc_linear.proofs.Products.{mul-add, mul-sub, mul_comm}
use Rattle.lc_linear.specs.Divided.{IsRoundedUp}

abs_positive : (k : ℤ) → pos 1 ≤ℤ k → 0 < unsigned_abs k
abs_positive k h = omega (arith, ints)

-- a product below its first factor is 0
small_product : (m n p : ℕ) → p ≡ m * n → p < m → p ≡ 0
small_product m zero p is small = omega arith
small_product m (suc n) p is small =
    let once = mul-le m 1 m (suc n) (omega arith) (omega arith) in
    omega (arith, once)

abs_zero : (a : ℤ) → unsigned_abs a ≡ 0 → a ≡ pos 0
abs_zero a is = omega (arith, ints)

module _ (a k : ℤ) (positive : pos 1 ≤ℤ k) where
  whole : k *ℤ int_div a k +ℤ int_rem a k ≡ a
  whole = ap (λ n. n +ℤ int_rem a k) (mul_comm k (int_div a k)) ∙ quot-rem a k

  pub rounded_quotient : int_rem a k ≤ℤ pos 0 → IsRoundedUp a k (int_div a k)
  rounded_quotient low =
      let w = whole in
      let small = rem_below a k (abs_positive k positive) in
      record { reaches = omega (arith, ints); least = omega (arith, ints) }

  pub rounded_next : pos 0 <ℤ int_rem a k → IsRoundedUp a k (int_div a k +ℤ pos 1)
  rounded_next high =
      let w = whole in
      let small = rem_below a k (abs_positive k positive) in
      let next = mul-add k (int_div a k) (pos 1) in
      record { reaches = omega (arith, ints); least = omega (arith, ints) }

  pub exact : int_rem a k ≡ pos 0 → a ≡ k *ℤ int_div a k
  exact none =
      let w = whole in
      omega (arith, ints)

  -- a multiple leaves no remainder
  pub no_remainder : (n : ℤ) → a ≡ k *ℤ n → int_rem a k ≡ pos 0
  no_remainder n is =
      let w = whole in
      let small = rem_below a k (abs_positive k positive) in
      let gap = mul-sub k n (int_div a k) in
      let rest : int_rem a k ≡ k *ℤ (n -ℤ int_div a k) = omega (arith, ints) in
      let size = ap unsigned_abs rest ∙ unsigned_abs-mul k (n -ℤ int_div a k) in
      abs_zero (int_rem a k) (small_product _ _ _ size small)

grows : (k : ℤ) (n : ℕ) → pos 1 ≤ℤ k → pos n ≤ℤ (k *ℤ pos n)
grows (pos m) n h =
    let more = mul-le 1 n m n (omega (arith, ints)) (omega arith) in
    omega (arith, ints, more)
grows (negsuc m) n h = absurd (omega (arith, ints))

-- what the code computes
module _ (a k : ℤ) (fits : FitsSigned w128 a) (k_fits : FitsSigned w128 k) (positive : pos 1 ≤ℤ k) where
  above : pos 0 <ℤ k
  above = omega (arith, ints)

  pub quotient_bits : to_z w128 (of_z w128 (int_div (to_z w128 (of_z w128 a)) (to_z w128 (of_z w128 k)))) ≡ int_div a k
  quotient_bits = quot_is w128 a k fits k_fits (quot_fits w128 a k fits above)

  pub remainder_bits : to_z w128 (of_z w128 (int_rem (to_z w128 (of_z w128 a)) (to_z w128 (of_z w128 k)))) ≡ int_rem a k
  remainder_bits = rem_is w128 a k fits k_fits

  next_within : (q : ℤ) → FitsSigned w128 q → (k *ℤ q) <ℤ a → FitsSigned w128 (q +ℤ pos 1)
  next_within (pos n) f below =
      let more = grows k n positive in
      omega (arith, ints)
  next_within (negsuc n) f below = omega (arith, ints)

  -- the next number after a quotient with a remainder above 0 fits
  pub next_fits : pos 0 <ℤ int_rem a k → FitsSigned w128 (int_div a k +ℤ pos 1)
  next_fits high = next_within (int_div a k) (quot_fits w128 a k fits above) (omega (arith, ints, whole a k positive))

-- the same numbers
pub IsRoundedUp-same : (a b k l m n : ℤ) → a ≡ b → k ≡ l → m ≡ n → IsRoundedUp a k m → IsRoundedUp b l n
IsRoundedUp-same a b k l m n is is_k is_n h = subst (λ d. IsRoundedUp d l n) is (subst (λ z. IsRoundedUp a z n) is_k (subst (IsRoundedUp a k) is_n h))
