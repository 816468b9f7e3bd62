-- A certificate of whose numbers each is known by itself.
use Rattle.std.specs.Prelude.{◌≡◌, ℕ, ◌<◌, List, length, get_or, Some, slice_get}
use Rattle.lc_kernel.specs.Derivation.{DerivesGoal}
use Rattle.lc_kernel.specs.Proofs.{Proof}
use Rattle.lc_outline.specs.Development.{Development}
use Rattle.lc_cert.specs.Certificates.{Entry}
use Rattle.lc_cert.specs.ColumnNames.{names_with}
use Rattle.lc_cert.specs.OneByOne.{IsReadAlone, IsFrame}
use Rattle.lc_cond.specs.Conditions.{Condition, conditions}
use Rattle.lc_outline.specs.ColumnNames.{column_names}
use Rattle.lc_check.specs.Verdicts.{IsProvenBy}

-- the proof derives the condition of this number
pub record IsDerived (D : Development) (k : ℕ) (p : Proof) : Type 0 where
  pub condition : Condition
  pub due : slice_get (conditions D) k ≡ Some condition
  pub derives : DerivesGoal condition.variables condition.hypotheses condition.goal p

-- What one worker found of number k, where a file is cut at these places and its entries are these items: the piece reads as the
-- entry of this number, whose proof derives the condition of this number.
pub record IsKnown (D : Development) (file : List ℕ) (at items : ℕ → ℕ) (k : ℕ) : Type 0 where
  pub entry : Entry
  pub alone : IsReadAlone (names_with (column_names D)) file at items k entry
  pub derived : IsDerived D k entry.proof

-- the number at a place, or 0
abbrev pub at_place : List ℕ → ℕ → ℕ
at_place ns k = get_or ns k 0

-- a file in the frame of a certificate, of whose numbers each is known, is a certificate that proves all conditions
abbrev pub KnownIsProven : Type 0
KnownIsProven = (D : Development) (file : List ℕ) (at items : ℕ → ℕ) → IsFrame D file (at 0) (at (length (conditions D))) → items 0 ≡ 3
    → ((k : ℕ) → k < length (conditions D) → IsKnown D file at items k) → IsProvenBy D file
