-- Certificates: proofs by numbers that rise.
use Rattle.std.specs.Prelude.{ℕ, ◌≤◌, Bool, true, ◌&&◌, ◌==◌, nat_lt, if◌then◌else◌, List, [], ◌∷◌, Option, Some, None}
use Rattle.lc_base.specs.Limits.{file_limit}
use Rattle.lc_term.specs.Lists.{Every}
use Rattle.lc_kernel.specs.Proofs.{Proof, size}

-- a proof, and the number of the condition that it is to prove
pub record Entry : Type 0 where
  pub number : ℕ
  pub proof : Proof

-- above the last number, if there is one
abbrev pub is_above : Option ℕ → ℕ → Bool
is_above None k = true
is_above (Some last) k = nat_lt last k

-- each number is above the one before it; the first is above this one
abbrev pub is_rising : Option ℕ → List Entry → Bool
is_rising last [] = true
is_rising last (e ∷ es) = is_above last e.number && is_rising (Some e.number) es

-- the proof of this number
abbrev pub proof_at : List Entry → ℕ → Option Proof
proof_at [] k = None
proof_at (e ∷ es) k = if e.number == k then Some e.proof else proof_at es k

-- no proof has more steps than a file has bytes
abbrev pub HaveFewSteps : List Entry → Type 0
HaveFewSteps es = Every (λ (e : Entry). size e.proof ≤ file_limit) es
