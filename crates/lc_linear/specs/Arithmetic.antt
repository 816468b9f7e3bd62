-- Arithmetic in 128 bits, of numbers and of forms, number by number.
use Rattle.std.specs.Prelude.{◌≡◌, ℤ, ◌+ℤ◌, ◌-ℤ◌, ◌*ℤ◌, FitsSigned, Result, Ok, Err}
use Rattle.std.specs.Int.{w128}
use Rattle.lc_linear.specs.declared.fault.LinFault.{LinFault}
use Rattle.lc_linear.specs.declared.fault.LinFault.TheVariants.{Large, OutOfMemory}

-- the number n if it fits, and Large if it does not
abbrev pub GivesNumber : Result ℤ LinFault → ℤ → Type 0
GivesNumber (Ok m) n = FitsSigned w128 n × (m ≡ n)
GivesNumber (Err Large) n = FitsSigned w128 n → ⊥
GivesNumber (Err OutOfMemory) n = ⊥

-- the sum of two forms
abbrev pub added : {Place : Type 0} → (Place → ℤ) → (Place → ℤ) → Place → ℤ
added f g p = f p +ℤ g p

-- each sum fits 128 bits
abbrev pub CanAdd : {Place : Type 0} → (Place → ℤ) → (Place → ℤ) → Type 0
CanAdd {Place} f g = (p : Place) → FitsSigned w128 (f p +ℤ g p)

-- a form with k times another one added
abbrev pub added_scaled : {Place : Type 0} → (Place → ℤ) → ℤ → (Place → ℤ) → Place → ℤ
added_scaled f k g p = f p +ℤ k *ℤ g p

-- each product and each sum fits 128 bits
abbrev pub CanAddScaled : {Place : Type 0} → (Place → ℤ) → ℤ → (Place → ℤ) → Type 0
CanAddScaled {Place} f k g = (p : Place) → FitsSigned w128 (k *ℤ g p) × FitsSigned w128 (f p +ℤ k *ℤ g p)

-- the difference of two forms
abbrev pub subtracted : {Place : Type 0} → (Place → ℤ) → (Place → ℤ) → Place → ℤ
subtracted f g p = f p -ℤ g p

-- each difference fits 128 bits
abbrev pub CanSubtract : {Place : Type 0} → (Place → ℤ) → (Place → ℤ) → Type 0
CanSubtract {Place} f g = (p : Place) → FitsSigned w128 (f p -ℤ g p)
