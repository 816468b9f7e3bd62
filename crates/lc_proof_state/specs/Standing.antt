-- What is at a step of a proof. Steps are numbered in preorder, from 0.
use Rattle.std.specs.Prelude.{◌≡◌, ℕ, zero, suc, ◌+◌, List, [], ◌∷◌, ◌++◌, Option, Some, None}
use Rattle.lc_term.specs.Syntax.{Formula, Not}
use Rattle.lc_term.specs.View.{formulas_of}
use Rattle.lc_kernel.specs.Proofs.{Step, Proof, proof, Proofs, more, proof_count, size}
use Rattle.lc_kernel.specs.Table.{opens, Gives}
use Rattle.lc_kernel.specs.View.{proof_of}
use Rattle.lc_proof_state.specs.declared.standing.Standing.{Standing}

mutual
  -- On the way to step n of a proof each step opens branches, and there u variables are in use, G are the hypotheses, and the
  -- part q of the proof begins. At first v variables are in use, and H are the hypotheses
  pub data Stands : ℕ → List Formula → Proof → ℕ → ℕ → List Formula → Proof → Type 0 where
    stands_here : {v : ℕ} {H : List Formula} {p : Proof} → Stands v H p 0 v H p
    stands_below : {v w : ℕ} {H : List Formula} {s : Step} {ps : Proofs} {bs : List (List Formula)} {n u : ℕ} {G : List Formula} {q : Proof} →
        Gives v H (proof_count ps) s (opens w bs) → StandsAmong w H bs ps n u G q → Stands v H (proof s ps) (suc n) u G q

  -- The same for the proofs of branches, with their steps counted on through all of them: each adds its formulas to the hypotheses
  pub data StandsAmong : ℕ → List Formula → List (List Formula) → Proofs → ℕ → ℕ → List Formula → Proof → Type 0 where
    in_first : {v : ℕ} {H : List Formula} {b : List Formula} {bs : List (List Formula)} {p : Proof} {ps : Proofs} {n u : ℕ} {G : List Formula} {q : Proof} →
        Stands v (H ++ b) p n u G q → StandsAmong v H (b ∷ bs) (more p ps) n u G q
    in_later : {v : ℕ} {H : List Formula} {b : List Formula} {bs : List (List Formula)} {p : Proof} {ps : Proofs} {n u : ℕ} {G : List Formula} {q : Proof} →
        StandsAmong v H bs ps n u G q → StandsAmong v H (b ∷ bs) (more p ps) (size p + n) u G q

-- the same for a proof of a goal: its hypotheses, then the negated goal
abbrev pub StandsGoal : ℕ → List Formula → Formula → Proof → ℕ → ℕ → List Formula → Proof → Type 0
StandsGoal v H goal p n u G q = Stands v (H ++ Not goal ∷ []) p n u G q

-- this is what is found
abbrev pub IsStanding : ℕ → List Formula → Proof → Option Standing → Type 0
IsStanding u G q None = ⊥
IsStanding u G q (Some found) = (found.variables ≡ u) × (formulas_of found.hypotheses.items ≡ G) × (proof_of found.proof.now ≡ q)
