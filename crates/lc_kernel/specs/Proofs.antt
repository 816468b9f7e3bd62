-- Proofs as trees of steps. Steps are numbered in preorder, from 0.
use Rattle.std.specs.Prelude.{ℕ, suc, ◌+◌, ℤ, List, [], ◌∷◌}
use Rattle.lc_term.specs.Syntax.{Term, Column, Formula}

-- a step. The first number is that of a hypothesis, if there is one
pub data Step : Type 0 where
  Split : ℤ → Step
  Cases : ℤ → Step
  Push : ℤ → Step
  Instantiate : ℤ → Term → Step
  Fresh : ℤ → Step
  Cut : Formula → Step
  Written : Column → Term → Term → Term → Step
  Same : Column → Term → Term → Step
  Affine : ℤ → ℤ → Term → Step
  Trichotomy : ℤ → Step
  Divide : ℤ → ℤ → Formula → Step
  Sum : List (ℤ × ℤ) → Step
  Opposite : ℤ → ℤ → Step
  Open : Step

mutual
  -- a step, and below it a proof for each branch
  pub data Proof : Type 0 where
    proof : Step → Proofs → Proof

  -- the proofs of branches
  pub data Proofs : Type 0 where
    none : Proofs
    more : Proof → Proofs → Proofs

-- a list of proofs, as the proofs of branches
abbrev pub proofs : List Proof → Proofs
proofs [] = none
proofs (p ∷ ps) = more p (proofs ps)

-- how many proofs there are
abbrev pub proof_count : Proofs → ℕ
proof_count none = 0
proof_count (more p ps) = suc (proof_count ps)

abbrev mutual
  -- how many steps a proof has
  pub size : Proof → ℕ
  size (proof s ps) = suc (size_of_all ps)

  pub size_of_all : Proofs → ℕ
  size_of_all none = 0
  size_of_all (more p ps) = size p + size_of_all ps
