-- Proofs with other columns in place of theirs.
use Rattle.std.specs.Prelude.{ℕ, Bool, true, ◌&&◌, Option, Some, None, if◌then◌else◌}
use Rattle.lc_kernel.specs.Proofs.{Step, Split, Cases, Push, Instantiate, Fresh, Cut, Written, Same, Affine, Trichotomy, Divide, Sum, Opposite, Open}
use Rattle.lc_kernel.specs.Proofs.{Proof, Proofs, proof, none, more}
use Rattle.lc_term.specs.Places.{term_passes, column_passes, passes}
use Rattle.lc_term.specs.Replacement.{replace_term, replace_column, replace}
use Rattle.lc_carry.specs.Renaming.{renaming, covered}

-- there is a column in place of each that the step names
abbrev pub step_is_covered : (ℕ → Option ℕ) → Step → Bool
step_is_covered to (Instantiate h t) = term_passes (covered to) t
step_is_covered to (Cut f) = passes (λ n. covered to) 0 f
step_is_covered to (Written c i v j) = column_passes (covered to) c && term_passes (covered to) i && term_passes (covered to) v && term_passes (covered to) j
step_is_covered to (Same c i j) = column_passes (covered to) c && term_passes (covered to) i && term_passes (covered to) j
step_is_covered to (Affine a b i) = term_passes (covered to) i
step_is_covered to (Divide h k f) = passes (λ n. covered to) 0 f
step_is_covered to _ = true

abbrev mutual
  -- there is one in place of each that the proof names
  pub is_covered : (ℕ → Option ℕ) → Proof → Bool
  is_covered to (proof s ps) = step_is_covered to s && are_covered to ps

  pub are_covered : (ℕ → Option ℕ) → Proofs → Bool
  are_covered to none = true
  are_covered to (more p ps) = is_covered to p && are_covered to ps

-- the step with each column replaced
abbrev pub renamed_step : (ℕ → Option ℕ) → Step → Step
renamed_step to (Split h) = Split h
renamed_step to (Cases h) = Cases h
renamed_step to (Push h) = Push h
renamed_step to (Instantiate h t) = Instantiate h (replace_term (renaming to) t)
renamed_step to (Fresh h) = Fresh h
renamed_step to (Cut f) = Cut (replace (renaming to) f)
renamed_step to (Written c i v j) = Written (replace_column (renaming to) c) (replace_term (renaming to) i) (replace_term (renaming to) v) (replace_term (renaming to) j)
renamed_step to (Same c i j) = Same (replace_column (renaming to) c) (replace_term (renaming to) i) (replace_term (renaming to) j)
renamed_step to (Affine a b i) = Affine a b (replace_term (renaming to) i)
renamed_step to (Trichotomy h) = Trichotomy h
renamed_step to (Divide h k f) = Divide h k (replace (renaming to) f)
renamed_step to (Sum es) = Sum es
renamed_step to (Opposite h g) = Opposite h g
renamed_step to Open = Open

abbrev mutual
  -- the proof with each column replaced
  pub renamed : (ℕ → Option ℕ) → Proof → Proof
  renamed to (proof s ps) = proof (renamed_step to s) (all_renamed to ps)

  pub all_renamed : (ℕ → Option ℕ) → Proofs → Proofs
  all_renamed to none = none
  all_renamed to (more p ps) = more (renamed to p) (all_renamed to ps)

-- the proof with each column replaced, if there is a column in place of each that it names
abbrev pub carried : (ℕ → Option ℕ) → Proof → Option Proof
carried to p = if is_covered to p then Some (renamed to p) else None
