-- Derivations with other columns in place of theirs.
use Rattle.std.specs.Prelude.{◌≡◌, ℕ, ◌<◌, Bool, true, List, Option, Some, map}
use Rattle.std.specs.List.{list_all}
use Rattle.lc_kernel.specs.Derivation.{DerivesGoal}
use Rattle.lc_kernel.specs.Proofs.{Proof}
use Rattle.lc_carry.specs.RenamedProofs.{is_covered, renamed}
use Rattle.lc_carry.specs.Renaming.{covered, renaming}
use Rattle.lc_term.specs.Places.{passes}
use Rattle.lc_term.specs.Replacement.{replace}
use Rattle.lc_term.specs.Syntax.{Formula}

-- there is a column in place of each that a formula names
abbrev pub formula_is_covered : (ℕ → Option ℕ) → Formula → Bool
formula_is_covered to f = passes (λ n. covered to) 0 f

-- columns below n have columns below m in their places, and no two have one
pub record IsOneToOne (to : ℕ → Option ℕ) (n m : ℕ) : Type 0 where
  pub within : (k j : ℕ) → to k ≡ Some j → (k < n) × (j < m)
  pub apart : (i k j : ℕ) → to i ≡ Some j → to k ≡ Some j → i ≡ k

-- the formulas g are the formulas f with each column replaced, and there is one in place of each
pub record AreRenamed (to : ℕ → Option ℕ) (fs gs : List Formula) : Type 0 where
  pub covered : list_all (formula_is_covered to) fs ≡ true
  pub same : gs ≡ map (replace (renaming to)) fs

pub record IsRenamed (to : ℕ → Option ℕ) (f g : Formula) : Type 0 where
  pub covered : formula_is_covered to f ≡ true
  pub same : g ≡ replace (renaming to) f

-- if no two columns become one, a proof of a goal is with each column replaced a proof of the goal with each column replaced
abbrev pub RenamedDerives : Type 0
RenamedDerives = (to : ℕ → Option ℕ) (n m v : ℕ) (H K : List Formula) (f g : Formula) (p : Proof) → IsOneToOne to n m → AreRenamed to H K → IsRenamed to f g → is_covered to p ≡ true
    → DerivesGoal v H f p → DerivesGoal v K g (renamed to p)
