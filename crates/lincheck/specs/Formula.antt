-- The verdict on a formula file, and the answer to it.
use Rattle.std.specs.Prelude.{◌≡◌, ℕ, ◌⊎◌, List, codes, Result, Ok, Err}
use Rattle.lc_base.specs.declared.refusal.Fault.{Fault}
use Rattle.lc_base.specs.declared.refusal.Fault.TheVariants.{Refused, OutOfMemory}
use Rattle.lc_base.specs.declared.refusal.Refusal.{Refusal}
use Rattle.lc_base.specs.declared.refusal.Refusal.TheVariants.{Proof, Large}
use Rattle.lc_kernel.specs.Derivation.{DerivesGoal, FailsGoal}
use Rattle.lc_kernel.specs.Reasons.{code_of}
use Rattle.lc_kernel.specs.declared.fault.ProofFault.{ProofFault}
use Rattle.lc_kernel.specs.declared.fault.ProofFault.TheVariants.{Bad as NotHolding, Large as TooLarge, OutOfMemory as NoMore}
use Rattle.lc_kernel.specs.declared.reason.Flaw.{Flaw}
use Rattle.lc_kernel.specs.declared.reason.Flaw.TheVariants.{Bad, Large as LargeFlaw}
use Rattle.lc_proof_text.specs.Files.{Claim, file_reading}
use Rattle.lc_reading.specs.Files.{Says, IsFirstRefusal}
use Rattle.lc_term.specs.Meaning.{Valid}
use Rattle.lc_term.specs.Syntax.{parts}
use Rattle.lincheck.specs.Answers.{Told}

-- the proof of a claim derives its goal from its hypotheses
abbrev pub IsProved : Claim → Type 0
IsProved claim = DerivesGoal claim.variables (parts claim.hypotheses) claim.goal claim.proof

-- its hypotheses imply its goal, in every state and for all numbers of the variables
abbrev pub IsTrueClaim : Claim → Type 0
IsTrueClaim claim = Valid (parts claim.hypotheses) claim.goal

-- this step of its proof is the first that does not hold, for this flaw
abbrev pub FailsAt : Claim → ℕ → Flaw → Type 0
FailsAt claim step flaw = FailsGoal claim.variables (parts claim.hypotheses) claim.goal claim.proof step flaw

-- the refusal for a flaw of a step: that of the proof of the only condition, which has the number 0
abbrev pub refusal_at : ℕ → Flaw → Refusal
refusal_at step (Bad reason) = Proof 0 step (code_of reason)
refusal_at step LargeFlaw = Large 0 step

-- the fault of the proof as that of the file
abbrev pub fault_of : ProofFault → Fault
fault_of (NotHolding step reason) = Refused (refusal_at step (Bad reason))
fault_of (TooLarge step) = Refused (refusal_at step LargeFlaw)
fault_of NoMore = OutOfMemory

-- the refusal tells the first step that does not hold of the proof that the file gives
abbrev pub IsProofRefusal : List ℕ → Refusal → Type 0
IsProofRefusal bytes refusal = (claim : Claim) × (step : ℕ) × (flaw : Flaw) × Says file_reading bytes claim × FailsAt claim step flaw × (refusal ≡ refusal_at step flaw)

-- The verdict on a formula file: its proof derives what it claims; or the first refusal of the file, or of its proof
abbrev pub IsVerdict : List ℕ → Result (Unit {0}) Fault → Type 0
IsVerdict bytes (Ok u) = (claim : Claim) × Says file_reading bytes claim × IsProved claim
IsVerdict bytes (Err (Refused refusal)) = IsFirstRefusal file_reading bytes refusal ⊎ IsProofRefusal bytes refusal
IsVerdict bytes (Err OutOfMemory) = Unit {0}

-- The answer to a formula file: its verdict, reported by the line `proved` or by the line of the refusal
abbrev pub AnswersFormula : List ℕ → List ℕ → ℕ → Type 0
AnswersFormula file text status = (verdict : Result (Unit {0}) Fault) × IsVerdict file verdict × Told (codes "proved") verdict text status
