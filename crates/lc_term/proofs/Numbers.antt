-- Numbers of 64 bits, computed in 128.
use Rattle.std.proofs.Common.{◌≡◌, ◌^◌, ◌≤◌, to_z, of_z, sym, subst, ap, ap₂, ◌∙◌, arith}
use Rattle.std.specs.Prelude.{ℤ, ◌+ℤ◌, ◌*ℤ◌, FitsSigned, unsigned_abs, Result, Ok, Err, MatchResult, OkIff, IsErrAnd}
use Rattle.std.specs.Int.{w64, w128}
use Rattle.std.proofs.lemmas.Int.{to_z-of_z, unsigned_abs-mul, fits_signed_mul, ints}
use Rattle.std.proofs.Math.Nat.{mul-le-mul}

abs_fits : (a : ℤ) → FitsSigned w64 a → unsigned_abs a ≤ 2 ^ 63
abs_fits a h = omega (arith, ints)

-- a product is at most 2 ^ 126, so it fits with one more number
wide_product : (a b : ℤ) → FitsSigned w64 a → FitsSigned w64 b → FitsSigned w128 (a *ℤ b)
wide_product a b f g = fits_signed_mul w128 a b (2 ^ 63) (2 ^ 63) (abs_fits a f) (abs_fits b g) (omega arith)

product_bound : (a b : ℤ) → FitsSigned w64 a → FitsSigned w64 b → unsigned_abs (a *ℤ b) ≤ 2 ^ 126
product_bound a b f g = rw (unsigned_abs-mul a b) (mul-le-mul (abs_fits a f) (abs_fits b g))

sum_bound : (x y : ℤ) → unsigned_abs x ≤ 2 ^ 126 → unsigned_abs y ≤ 2 ^ 63 → FitsSigned w128 (x +ℤ y)
sum_bound x y f g = omega (arith, ints)

pub wide_affine : (a b i : ℤ) → FitsSigned w64 a → FitsSigned w64 b → FitsSigned w64 i → FitsSigned w128 (a *ℤ i +ℤ b)
wide_affine a b i f g h = sum_bound (a *ℤ i) b (product_bound a i f h) (abs_fits b g)

widened : (a : ℤ) → FitsSigned w64 a → FitsSigned w128 a
widened a h = omega (arith, ints)

-- a number of 64 bits as the code has it in 128
abbrev pub wide : ℤ → ℤ
wide x = to_z w128 (of_z w128 x)

wide_of : (a x : ℤ) → FitsSigned w64 a → x ≡ to_z w64 (of_z w64 a) → wide x ≡ a
wide_of a x h e = ap wide (e ∙ to_z-of_z w64 a h) ∙ to_z-of_z w128 a (widened a h)

-- the sum that the code computes is the cell
sum_is : (a b i x y z : ℤ) → FitsSigned w64 a → FitsSigned w64 b → FitsSigned w64 i →
    x ≡ to_z w64 (of_z w64 a) → y ≡ to_z w64 (of_z w64 i) → z ≡ to_z w64 (of_z w64 b) → wide (wide x *ℤ wide y) +ℤ wide z ≡ a *ℤ i +ℤ b
sum_is a b i x y z f g h ex ey ez =
    ap₂ ◌+ℤ◌ (ap wide (ap₂ ◌*ℤ◌ (wide_of a x f ex) (wide_of i y h ey)) ∙ to_z-of_z w128 (a *ℤ i) (wide_product a i f h)) (wide_of b z g ez)

pub sum_fits : (a b i x y z : ℤ) → FitsSigned w64 a → FitsSigned w64 b → FitsSigned w64 i →
    x ≡ to_z w64 (of_z w64 a) → y ≡ to_z w64 (of_z w64 i) → z ≡ to_z w64 (of_z w64 b) → FitsSigned w128 (wide (wide x *ℤ wide y) +ℤ wide z)
sum_fits a b i x y z f g h ex ey ez = subst (FitsSigned w128) (sym (sum_is a b i x y z f g h ex ey ez)) (wide_affine a b i f g h)

pub cell_is : (a b i x y z : ℤ) → FitsSigned w64 a → FitsSigned w64 b → FitsSigned w64 i →
    x ≡ to_z w64 (of_z w64 a) → y ≡ to_z w64 (of_z w64 i) → z ≡ to_z w64 (of_z w64 b) → wide (wide (wide x *ℤ wide y) +ℤ wide z) ≡ a *ℤ i +ℤ b
cell_is a b i x y z f g h ex ey ez = ap wide (sum_is a b i x y z f g h ex ey ez) ∙ to_z-of_z w128 (a *ℤ i +ℤ b) (wide_affine a b i f g h)

-- another error in place of the one that is there
pub OkIff-map_err : {T E F : Type 0} (r : Result T E) (s : Result T F) (P : Type 0) (v : T) (Q : E → F → Type 0) →
    OkIff r P v → MatchResult r (λ x. s ≡ Ok x) (λ e. IsErrAnd s (Q e)) → OkIff s P v
OkIff-map_err (Ok x) s P v Q h m = subst (λ t. OkIff t P v) (sym m) h
OkIff-map_err (Err e) (Ok x) P v Q h m = absurd m
OkIff-map_err (Err e) (Err f) P v Q h m = h
