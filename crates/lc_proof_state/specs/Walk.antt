-- The way to a step of a proof.
use Rattle.std.specs.Prelude.{ℕ, zero, suc, ◌-◌, nat_lt, List, ◌++◌, Option, Some, None, option_and_then, if◌then◌else◌}
use Rattle.lc_term.specs.Syntax.{Formula}
use Rattle.lc_term.specs.View.{formulas_of}
use Rattle.lc_kernel.specs.Proofs.{Step, Proof, proof, Proofs, none, more, size}
use Rattle.lc_kernel.specs.View.{proof_of}
use Rattle.lc_proof_state.specs.Opened.{opened_by}
use Rattle.lc_proof_state.specs.declared.standing.Standing.{Standing}
use Rattle.lc_proof_state.specs.declared.standing.Within.{Within}

-- variables in use, hypotheses, and a part of a proof
pub record Spot : Type 0 where
  pub variables : ℕ
  pub hypotheses : List Formula
  pub part : Proof

-- the branch that has step n of all, from the branch at place i on: its place, which of its steps that is, and its proof
abbrev pub branch_in : Proofs → ℕ → ℕ → Option (ℕ × ℕ × Proof)
branch_in none i n = None
branch_in (more p ps) i n = if nat_lt n (size p) then Some (i, n, p) else branch_in ps (suc i) (n - size p)

abbrev mutual
  -- what is at step n of a proof, if its steps hold
  pub spot_at : ℕ → List Formula → Proof → ℕ → Option Spot
  spot_at v H (proof s ps) zero = Some (record { variables = v; hypotheses = H; part = proof s ps })
  spot_at v H (proof s ps) (suc n) = spot_among v H s ps 0 n

  -- the same for the proofs of branches, the first at place i
  pub spot_among : ℕ → List Formula → Step → Proofs → ℕ → ℕ → Option Spot
  spot_among v H s none i n = None
  spot_among v H s (more p ps) i n =
      if nat_lt n (size p) then option_and_then (λ o. spot_at o.0 (H ++ o.1) p n) (opened_by v H s i) else spot_among v H s ps (suc i) (n - size p)

-- what the code has found of it
abbrev pub spot_of : Standing → Spot
spot_of found = record { variables = found.variables; hypotheses = formulas_of found.hypotheses.items; part = proof_of found.proof.now }

abbrev pub within_of : Within → ℕ × ℕ × Proof
within_of w = (w.place, w.step, proof_of w.proof.now)
