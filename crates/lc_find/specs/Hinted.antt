-- The proofs that hints have for conditions.
use Rattle.std.specs.Prelude.{◌≡◌, ℕ, suc, List, [], ◌∷◌, ◌++◌, Option, Some, None, slice_get}
use Rattle.lc_kernel.specs.Proofs.{Proof}
use Rattle.lc_outline.specs.Development.{Development}
use Rattle.lc_cert.specs.Certificates.{Entry, proof_at}
use Rattle.lc_cond.specs.Conditions.{Condition, conditions}
use Rattle.lc_check.specs.Verdicts.{IsProved}

-- condition k is there, and this proof derives it
abbrev pub IsProvedAt : Development → ℕ → Option Proof → Type 0
IsProvedAt D k o = (c : Condition) × (slice_get (conditions D) k ≡ Some c) × IsProved c o

-- the first proof that the hints have for condition k holds
abbrev pub IsHinted : Development → List Entry → ℕ → Type 0
IsHinted D hs k = IsProvedAt D k (proof_at hs k)

-- it is the first that the hints have
abbrev pub IsFirstHint : List Entry → Entry → Type 0
IsFirstHint hs e = proof_at hs e.number ≡ Some e.proof

-- the first that the hints have is taken, if it holds
abbrev pub IsFirstTaken : Development → List Entry → Entry → Type 0
IsFirstTaken D hs e = IsHinted D hs e.number → IsFirstHint hs e

-- the entry of a proof, if there is one
abbrev pub entries_by : ℕ → Option Proof → List Entry
entries_by k None = []
entries_by k (Some p) = record { number = k; proof = p } ∷ []

-- the first proofs that the hints have for these conditions, from number k on
abbrev pub by_entries : List Entry → ℕ → List Condition → List Entry
by_entries hs k [] = []
by_entries hs k (c ∷ cs) = entries_by k (proof_at hs k) ++ by_entries hs (suc k) cs
