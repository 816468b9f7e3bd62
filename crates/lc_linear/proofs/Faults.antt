-- Faults that are passed on.
use Rattle.std.proofs.Common.{◌≡◌, sym, ◌∙◌}
use Rattle.std.specs.Prelude.{ℤ, FitsSigned, Result, Ok, Err, IsErrAnd}
use Rattle.std.specs.Int.{w128}
use Rattle.lc_linear.specs.Arithmetic.{GivesNumber}
use Rattle.lc_linear.specs.Numbered.{Place, Form}
use Rattle.lc_linear.specs.declared.fault.LinFault.{LinFault}
use Rattle.lc_linear.specs.declared.fault.LinFault.TheVariants.{Large, OutOfMemory}
use Rattle.lc_linear.specs.LinForm.{Gives, GivesForm}
use Rattle.lc_linear.specs.declared.form.LinForm.{LinForm}

-- arithmetic that answers Large has no number that fits
pub too_large : (f : LinFault) (n : ℤ) → GivesNumber (Err f) n → f ≡ Large → FitsSigned w128 n → ⊥
too_large Large n h is = h
too_large OutOfMemory n h is = elim h [ ]

pub large_form : (P : Type 0) (Q : LinForm → Type 0) (e : LinFault) → Gives (Err e) P Q → e ≡ Large → P → ⊥
large_form P Q Large h is = h
large_form P Q OutOfMemory h is = cc

-- a fault that `?` returns
pub passed_on : (P : Type 0) (Q : LinForm → Type 0) (r : Result LinForm LinFault) (met : LinFault) → IsErrAnd r (λ e. e ≡ met) → (met ≡ Large → P → ⊥) → Gives r P Q
passed_on P Q (Ok form) met h large = elim h [ ]
passed_on P Q (Err Large) met h large = large (sym h)
passed_on P Q (Err OutOfMemory) met h large = tt

-- the same answer, said of another fact and of numbers that are the same
pub GivesForm-map : (P Q : Type 0) (f g : Form) (r : Result LinForm LinFault) → (P → Q) → (Q → P) → ((p : Place) → f p ≡ g p) → GivesForm r P f → GivesForm r Q g
GivesForm-map P Q f g (Ok form) to back same h = (to h.0, λ p. h.1 p ∙ same p)
GivesForm-map P Q f g (Err Large) to back same h = λ q. h (back q)
GivesForm-map P Q f g (Err OutOfMemory) to back same h = tt
