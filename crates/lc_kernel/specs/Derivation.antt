-- Derivations, and the first step of a proof that does not hold.
use Rattle.std.specs.Prelude.{ℕ, suc, ◌+◌, List, [], ◌∷◌, ◌++◌}
use Rattle.lc_term.specs.Syntax.{Formula, Not}
use Rattle.lc_kernel.specs.Proofs.{Step, Proof, proof, Proofs, none, more, proof_count, size}
use Rattle.lc_kernel.specs.Table.{flawed, opens, Gives}
use Rattle.lc_kernel.specs.declared.reason.Flaw.{Flaw}

mutual
  -- A proof derives a contradiction from hypotheses, where v variables are in use: its step opens branches, and each
  -- is closed by the proof below it
  pub data Derives : ℕ → List Formula → Proof → Type 0 where
    derives : {v w : ℕ} {H : List Formula} {s : Step} {ps : Proofs} {bs : List (List Formula)} →
        Gives v H (proof_count ps) s (opens w bs) → EachDerives w H bs ps → Derives v H (proof s ps)

  -- Each branch is closed by its proof, and there are no other proofs
  pub data EachDerives : ℕ → List Formula → List (List Formula) → Proofs → Type 0 where
    all_closed : {v : ℕ} {H : List Formula} → EachDerives v H [] none
    one_closed : {v : ℕ} {H : List Formula} {b : List Formula} {bs : List (List Formula)} {p : Proof} {ps : Proofs} →
        Derives v (H ++ b) p → EachDerives v H bs ps → EachDerives v H (b ∷ bs) (more p ps)

mutual
  -- Step n of a proof, in preorder, is the first that does not hold, for this flaw
  pub data Fails : ℕ → List Formula → Proof → ℕ → Flaw → Type 0 where
    fails_here : {v : ℕ} {H : List Formula} {s : Step} {ps : Proofs} {why : Flaw} →
        Gives v H (proof_count ps) s (flawed why) → Fails v H (proof s ps) 0 why
    fails_below : {v w : ℕ} {H : List Formula} {s : Step} {ps : Proofs} {bs : List (List Formula)} {n : ℕ} {why : Flaw} →
        Gives v H (proof_count ps) s (opens w bs) → SomeFails w H bs ps n why → Fails v H (proof s ps) (suc n) why

  -- The same for the proofs of branches, with their steps counted on through all of them
  pub data SomeFails : ℕ → List Formula → List (List Formula) → Proofs → ℕ → Flaw → Type 0 where
    first_fails : {v : ℕ} {H : List Formula} {b : List Formula} {bs : List (List Formula)} {p : Proof} {ps : Proofs} {n : ℕ} {why : Flaw} →
        Fails v (H ++ b) p n why → SomeFails v H (b ∷ bs) (more p ps) n why
    later_fails : {v : ℕ} {H : List Formula} {b : List Formula} {bs : List (List Formula)} {p : Proof} {ps : Proofs} {n : ℕ} {why : Flaw} →
        Derives v (H ++ b) p → SomeFails v H bs ps n why → SomeFails v H (b ∷ bs) (more p ps) (size p + n) why

-- A proof derives a goal from hypotheses: from these and, at the end, the negated goal it derives a contradiction
abbrev pub DerivesGoal : ℕ → List Formula → Formula → Proof → Type 0
DerivesGoal v H goal p = Derives v (H ++ Not goal ∷ []) p

-- Step n is the first that does not hold of a proof of a goal
abbrev pub FailsGoal : ℕ → List Formula → Formula → Proof → ℕ → Flaw → Type 0
FailsGoal v H goal p n why = Fails v (H ++ Not goal ∷ []) p n why
