-- When a proof that is carried proves the condition that it is carried to.
use Rattle.std.specs.Prelude.{◌≡◌, ℕ, List, Some, slice_get}
use Rattle.lc_carry.specs.Carried.{column_between}
use Rattle.lc_carry.specs.CarriedFrom.{IsCarriedFrom}
use Rattle.lc_cert.specs.Certificates.{Entry}
use Rattle.lc_cond.specs.Conditions.{Condition}
use Rattle.lc_kernel.specs.Derivation.{DerivesGoal}
use Rattle.lc_kernel.specs.Proofs.{Proof}
use Rattle.lc_outline.specs.ColumnNames.{column_names}
use Rattle.lc_outline.specs.Development.{Development}
use Rattle.lc_carry.specs.RenamedDerivations.{AreRenamed, IsRenamed}
use Rattle.lc_carry.specs.RenamedProofs.{renamed}

-- no two of these names are the same
abbrev pub AreApart : List (List ℕ) → Type 0
AreApart names = (i k : ℕ) (w : List ℕ) → slice_get names i ≡ Some w → slice_get names k ≡ Some w → i ≡ k

-- a condition of E is one of D with each column replaced by the one of its name
pub record IsSameCondition (D E : Development) (old new : Condition) : Type 0 where
  pub variables : new.variables ≡ old.variables
  pub hypotheses : AreRenamed (column_between D E) old.hypotheses new.hypotheses
  pub goal : IsRenamed (column_between D E) old.goal new.goal

abbrev pub IsDerived : Condition → Proof → Type 0
IsDerived c p = DerivesGoal c.variables c.hypotheses c.goal p

-- if no two columns of D have one name, a proof that is carried from a condition of D to the same condition of E derives it, as it
-- derived the one of D
abbrev pub CarriedDerives : Type 0
CarriedDerives = (D : Development) (es : List Entry) (E : Development) (k j : ℕ) (p : Proof) (from : IsCarriedFrom D es E k j p) → AreApart (column_names D) → IsSameCondition D E from.old from.new
    → IsDerived from.old p → IsDerived from.new (renamed (column_between D E) p)
