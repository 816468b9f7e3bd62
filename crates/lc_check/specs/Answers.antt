-- What the code answers of the proofs of a certificate.
use Rattle.std.specs.Prelude.{◌≡◌, ℕ, List, length, Some, Result, Ok, Err}
use Rattle.lc_base.specs.declared.refusal.Fault.{Fault}
use Rattle.lc_base.specs.declared.refusal.Fault.TheVariants.{Refused, OutOfMemory}
use Rattle.lc_kernel.specs.Proofs.{Proof}
use Rattle.lc_kernel.specs.declared.fault.ProofFault.{ProofFault}
use Rattle.lc_kernel.specs.declared.fault.ProofFault.TheVariants.{Bad as NotHolding, Large as TooLarge, OutOfMemory as NoMore}
use Rattle.lc_kernel.specs.declared.reason.Flaw.TheVariants.{Bad, Large}
use Rattle.lc_cert.specs.Certificates.{Entry}
use Rattle.lc_cond.specs.Conditions.{Condition}
use Rattle.lc_cond.specs.Uses.{UsesItsVariables}
use Rattle.lc_cond.specs.VariableCounts.{HasFewVariables}
use Rattle.lc_check.specs.Verdicts.{IsProved, IsUnproved, ProvesAll, IsProofRefusal, flaw_told}

-- it uses no variables but those that it counts, and they are few
abbrev pub IsBounded : Condition → Type 0
IsBounded c = UsesItsVariables c × HasFewVariables c

-- the fault of the proof of condition k
abbrev pub fault_of : ℕ → ProofFault → Fault
fault_of k (NotHolding step reason) = Refused (flaw_told k step (Bad reason))
fault_of k (TooLarge step) = Refused (flaw_told k step Large)
fault_of k NoMore = OutOfMemory

-- condition k is proved by this proof, or the reason is reported; nothing on `OutOfMemory`
abbrev pub ProvesOne : ℕ → Condition → Proof → Result (Unit {0}) Fault → Type 0
ProvesOne k c p (Ok u) = IsProved c (Some p)
ProvesOne k c p (Err (Refused refusal)) = IsUnproved k c (Some p) refusal
ProvesOne k c p (Err OutOfMemory) = Unit {0}

-- all conditions are proved, n is their number, and there is no other proof; or the reason is reported; nothing on `OutOfMemory`
abbrev pub CountsAll : List Entry → List Condition → Result ℕ Fault → Type 0
CountsAll es cs (Ok n) = (n ≡ length cs) × ProvesAll es cs
CountsAll es cs (Err (Refused refusal)) = IsProofRefusal es cs refusal
CountsAll es cs (Err OutOfMemory) = Unit {0}
