-- Numbers of the code, which a proof meets as their bits.
use Rattle.std.proofs.Common.{◌≡◌, ◌∙◌, ap, ap₂, sym, subst, to_z, of_z, w64, arith}
use Rattle.std.specs.Prelude.{ℤ, pos, ◌+ℤ◌, ◌-ℤ◌, ◌*ℤ◌, FitsSigned}
use Rattle.std.specs.Int.{w128}
use Rattle.std.proofs.lemmas.Int.{ints, to_z-of_z}

-- a number of 128 bits is itself
pub wide_number_kept : (n : ℤ) → FitsSigned w128 n → to_z w128 (of_z w128 n) ≡ n
wide_number_kept n fits = to_z-of_z w128 n fits

pub kept_fits : (n : ℤ) → FitsSigned w128 n → FitsSigned w128 (to_z w128 (of_z w128 n))
kept_fits n fits = subst (FitsSigned w128) (sym (wide_number_kept n fits)) fits

-- a number of 64 bits, as one of 128
pub widened_number : (n m : ℤ) → FitsSigned w64 n → m ≡ to_z w64 (of_z w64 n) → to_z w128 (of_z w128 m) ≡ n
widened_number n m fits is = omega (arith, ints)

-- a number of 64 bits
pub number_kept : (n : ℤ) → FitsSigned w64 n → to_z w64 (of_z w64 n) ≡ n
number_kept n fits = to_z-of_z w64 n fits

-- a product of two numbers of 128 bits, and what is passed on of it if it fits
pub product_bits : (k n : ℤ) → FitsSigned w128 k → FitsSigned w128 n → to_z w128 (of_z w128 k) *ℤ to_z w128 (of_z w128 n) ≡ k *ℤ n
product_bits k n f g = ap₂ ◌*ℤ◌ (wide_number_kept k f) (wide_number_kept n g)

pub product_kept : (m a : ℤ) → FitsSigned w128 a × (m ≡ a) → to_z w128 (of_z w128 m) ≡ a
product_kept m a h = wide_number_kept m (subst (FitsSigned w128) (sym h.1) h.0) ∙ h.1

pub +ℤ-zero : (a : ℤ) → a +ℤ pos 0 ≡ a
+ℤ-zero a = omega (arith, ints)

pub difference_bits : (m n : ℤ) → FitsSigned w128 m → FitsSigned w128 n → to_z w128 (of_z w128 m) -ℤ to_z w128 (of_z w128 n) ≡ m -ℤ n
difference_bits m n f g = ap₂ ◌-ℤ◌ (wide_number_kept m f) (wide_number_kept n g)

-- a number whose bits are 0
pub zero_bits : (n : ℤ) → FitsSigned w128 n → of_z w128 n ≡ 0 → n ≡ pos 0
zero_bits n fits is = sym (wide_number_kept n fits) ∙ ap (to_z w128) is

-- two numbers with the same bits
pub same_bits : (n m : ℤ) → FitsSigned w128 n → FitsSigned w128 m → of_z w128 n ≡ of_z w128 m → n ≡ m
same_bits n m f g is = sym (wide_number_kept n f) ∙ ap (to_z w128) is ∙ wide_number_kept m g
