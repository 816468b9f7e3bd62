-- Numbers that fit 64 bits, or do not.
use Rattle.std.proofs.Common.{◌≡◌, ℕ, zero, suc, ◌^◌, ◌≤◌, Bool, true, false, List, [], ◌∷◌, length, refl, sym, ap, ◌∙◌, arith}
use Rattle.std.specs.Prelude.{ℤ, pos, negsuc, Option, Some, None, option_and_then, Result, Ok, Err, SomeIff, OkIff, FitsSigned, slice_index_or, if◌then◌else◌}
use Rattle.std.specs.Int.{w64}
use Rattle.std.specs.Result.{result_ok}
use Rattle.std.specs.Bool.{Decides}
use Rattle.std.proofs.lemmas.Bool.Decides.{Decides-ltb}
use Rattle.std.proofs.lemmas.Option.{same_Some}
use Rattle.lc_look.specs.Computing.{fits_64, in_64, both_in_64}

decides_fits : (z : ℤ) → Decides (fits_64 z) (FitsSigned w64 z)
decides_fits (pos n) = (λ e. record { sfits = (Decides-ltb n (2 ^ 63)).0 e }, λ h. (Decides-ltb n (2 ^ 63)).1 h.sfits)
decides_fits (negsuc n) = (λ e. record { sfits = (Decides-ltb n (2 ^ 63)).0 e }, λ h. (Decides-ltb n (2 ^ 63)).1 h.sfits)

in_64-fits : (z : ℤ) → FitsSigned w64 z → in_64 z ≡ Some z
in_64-fits z h = ap (λ b. if b then Some z else None) ((decides_fits z).1 h)

in_64-large : (z : ℤ) → (FitsSigned w64 z → ⊥) → in_64 z ≡ None
in_64-large z h = by (fits_64 z) refl
  where
    by : (b : Bool) → fits_64 z ≡ b → in_64 z ≡ None
    by true e = absurd (h ((decides_fits z).0 e))
    by false e = ap (λ b. if b then Some z else None) e

pub option_in_64 : (o : Option ℤ) (z : ℤ) → SomeIff o (FitsSigned w64 z) z → o ≡ in_64 z
option_in_64 None z h = sym (in_64-large z h)
option_in_64 (Some x) z h = ap Some h.1 ∙ sym (in_64-fits z h.0)

pub result_in_64 : {E : Type 0} (r : Result ℤ E) (z : ℤ) → OkIff r (FitsSigned w64 z) z → result_ok r ≡ in_64 z
result_in_64 (Ok x) z h = ap Some h.1 ∙ sym (in_64-fits z h.0)
result_in_64 (Err e) z h = sym (in_64-large z h)

-- where there is no column, each cell has 0
pub none_there : (columns : List (ℤ → ℤ)) (c : ℕ) (i : ℤ) → length columns ≤ c → slice_index_or columns c (λ j. pos 0) i ≡ pos 0
none_there [] c i h = refl
none_there (x ∷ xs) zero i h = absurd (omega (arith, h))
none_there (x ∷ xs) (suc c) i h = none_there xs c i (omega (arith, h))

-- ---- what is there was made of what is there

pub in_64-some : (z x : ℤ) → in_64 z ≡ Some x → z ≡ x
in_64-some z x h = by (fits_64 z) refl
  where
    by : (b : Bool) → fits_64 z ≡ b → z ≡ x
    by true e = same_Some z x (sym (ap (λ b. if b then Some z else None) e) ∙ h)
    by false e = (let n : None ≡ Some x = sym (ap (λ b. if b then Some z else None) e) ∙ h in cc)

pub and_then-some : (f : ℤ → Option ℤ) (o : Option ℤ) (x : ℤ) → option_and_then f o ≡ Some x → (y : ℤ) × (o ≡ Some y) × (f y ≡ Some x)
and_then-some f None x h = cc
and_then-some f (Some y) x h = (y, refl, h)

pub both_in_64-some : (f : ℤ → ℤ → ℤ) (m n : Option ℤ) (x : ℤ) → both_in_64 f m n ≡ Some x → (y z : ℤ) × (m ≡ Some y) × (n ≡ Some z) × (f y z ≡ x)
both_in_64-some f None n x h = cc
both_in_64-some f (Some y) None x h = cc
both_in_64-some f (Some y) (Some z) x h = (y, z, refl, refl, in_64-some (f y z) x h)
