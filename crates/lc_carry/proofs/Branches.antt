-- Proofs with other columns in place of theirs.
use Rattle.std.proofs.Common.{◌≡◌, ℕ, ◌+◌, suc, List, [], ◌∷◌, refl, ap, ap₂, ◌∙◌}
use Rattle.std.specs.Prelude.{Option, map}
use Rattle.lc_kernel.specs.Proofs.{Proof, Proofs, proof, none, more, proofs, size, size_of_all}
use Rattle.lc_kernel.proofs.Checked.{proof_of-proof}
use Rattle.lc_kernel.specs.View.{step_of, proof_of, proofs_of}
use Rattle.lc_kernel.specs.declared.proof.Proof.{Proof as Shown, out-Proof}
use Rattle.lc_carry.specs.RenamedProofs.{renamed_step, renamed, all_renamed}

pub all_renamed-proofs : (to : ℕ → Option ℕ) (ps : List Proof) → all_renamed to (proofs ps) ≡ proofs (map (renamed to) ps)
all_renamed-proofs to [] = refl
all_renamed-proofs to (p ∷ ps) = ap (more (renamed to p)) (all_renamed-proofs to ps)

-- by its step and the proofs of its branches
pub renamed-proof : (to : ℕ → Option ℕ) (p : Shown) → renamed to (proof_of p) ≡ proof (renamed_step to (step_of (out-Proof p).step)) (proofs (map (renamed to) (proofs_of (out-Proof p).branches.items)))
renamed-proof to p = ap (renamed to) (proof_of-proof p) ∙ ap (proof (renamed_step to (step_of (out-Proof p).step))) (all_renamed-proofs to (proofs_of (out-Proof p).branches.items))

mutual
  -- they have as many steps
  pub same_size : (to : ℕ → Option ℕ) (p : Proof) → size (renamed to p) ≡ size p
  same_size to (proof s ps) = ap suc (same_sizes to ps)

  same_sizes : (to : ℕ → Option ℕ) (ps : Proofs) → size_of_all (all_renamed to ps) ≡ size_of_all ps
  same_sizes to none = refl
  same_sizes to (more p ps) = ap₂ (λ a b. a + b) (same_size to p) (same_sizes to ps)
