-- Numbers with which a list begins, and the steps that begin so.
use Rattle.std.proofs.Common.{◌≡◌, ℤ, ◌+◌, Ok, refl, sym, ap, ◌∙◌}
use Rattle.lc_sexp.specs.Parts.{Fit, fits, misshapen, beyond, integer_fit}
use Rattle.lc_sexp.specs.Shown.{rest_of, number_of, owner_of, IsFitted, IsPart, ShowsNumber}
use Rattle.lc_sexp.specs.Trees.{Tree, Trees, none, ◌▸◌, item_count}
use Rattle.lc_sexp.specs.declared.cursor.Cursor.{Cursor}
use Rattle.lc_reading.specs.Readings.{fine}
use Rattle.lc_text.specs.Terms.{fit_reading}
use Rattle.lc_kernel.specs.Proofs as S
use Rattle.lc_kernel.specs.View.{step_of}
use Rattle.lc_kernel.specs.declared.proof.Step.{Step}
use Rattle.lc_proof_text.specs.Own.{BeginsWith, IsLeft}
use Rattle.lc_proof_text.specs.Steps.{hypothesis_step, hypothesis_reading, opposite_reading}
use Rattle.lc_proof_text.specs.declared.head.Head.{Head}

fitted : (l rest : Cursor) (z : ℤ) (t : Tree) (ts : Trees) (fit : Fit ℤ) → rest_of l ≡ t ▸ ts → integer_fit t ≡ fit → IsFitted fit ShowsNumber l t ts (Ok z) rest → BeginsWith l z rest
fitted l rest z t ts (fits x) whole is (same, behind) =
    (t, ap (fit_reading (number_of l)) is ∙ ap fine same, record { rest = whole ∙ ap (λ us. t ▸ us) (sym behind.rest); number = behind.number; owner = behind.owner })
fitted l rest z t ts misshapen whole is (other, stays) = let no : ⊥ = cc in absurd no
fitted l rest z t ts beyond whole is (other, stays) = let no : ⊥ = cc in absurd no

-- the first item is this number
pub begins_with : (l rest : Cursor) (z : ℤ) (ts : Trees) → rest_of l ≡ ts → IsPart integer_fit ShowsNumber l ts (Ok z) rest → BeginsWith l z rest
begins_with l rest z none whole (other, stays) = let no : ⊥ = cc in absurd no
begins_with l rest z (t ▸ ts) whole given = fitted l rest z t ts (integer_fit t) whole refl given

-- the step of a hypothesis
pub hypothesis_begun : (head : Head) (l rest : Cursor) (z : ℤ) (step : Step) → BeginsWith l z rest → step_of step ≡ hypothesis_step head z
    → (hypothesis_reading head (owner_of l) (number_of l) (rest_of l) ≡ fine (step_of step)) × IsLeft 1 (number_of l) (rest_of l) rest
hypothesis_begun head l rest z step (t, first, next) is = rw (next.rest, first, is) (refl, (next.number, refl))

-- the step `opposite`
pub opposite_begun : (l between rest : Cursor) (x y : ℤ) → BeginsWith l x between → BeginsWith between y rest
    → (opposite_reading (owner_of l) (number_of l) (rest_of l) ≡ fine (S.Opposite x y)) × IsLeft 2 (number_of l) (rest_of l) rest
opposite_begun l between rest x y (t, first, next) (u, second, last) =
    rw (next.rest, last.rest, first) (rw (rw next.number at second) refl, (last.number ∙ ap (λ m. m + item_count u) next.number, refl))
