-- A verdict from the answers to the file and to its proof, and from the beginning of a file.
use Rattle.std.proofs.Common.{◌≡◌, ℕ, List, codes, Option, Result, Ok, Err, refl, sym, subst, ◌∙◌, inl, inr}
use Rattle.std.specs.Result.{IsErrAnd}
use Rattle.lc_base.specs.declared.refusal.Fault.{Fault}
use Rattle.lc_base.specs.declared.refusal.Fault.TheVariants.{Refused, OutOfMemory}
use Rattle.lc_kernel.proofs.Views.{parts_formulas}
use Rattle.lc_kernel.specs.Answers.{Proves}
use Rattle.lc_kernel.specs.Derivation.{DerivesGoal, FailsGoal}
use Rattle.lc_kernel.specs.View.{proof_of}
use Rattle.lc_kernel.specs.declared.fault.ProofFault.{ProofFault}
use Rattle.lc_kernel.specs.declared.fault.ProofFault.TheVariants.{Bad, Large as TooLarge, OutOfMemory as NoMore}
use Rattle.lc_kernel.specs.declared.reason.Flaw.TheVariants.{Bad as BadFlaw, Large as LargeFlaw}
use Rattle.lc_proof_text.specs.Files.{claim_in, file_reading}
use Rattle.lc_proof_text.specs.declared.claim.FormulaFile.{FormulaFile}
use Rattle.lc_reading.proofs.Files.{text_fault}
use Rattle.lc_reading.specs.Files.{Says, IsAnswerTo}
use Rattle.lc_sexp.specs.Answers.{IsTextFault}
use Rattle.lc_sexp.specs.Reads.{IsFirstFault}
use Rattle.lc_term.specs.Syntax as T
use Rattle.lc_table.specs.Tables.{formula_in, formulas_in}
use Rattle.lincheck.specs.Answers.{Told}
use Rattle.lincheck.specs.Formula.{AnswersFormula, IsVerdict, fault_of}
use Rattle.lincheck.specs.Reading.{OfFile, within_limit}
use Rattle.lincheck.proofs.Read.{read_so}
use Rattle.lincheck.proofs.Truncated.{said_of_whole, refusal_of_whole}

-- what the kernel answers of a goal and a proof
abbrev Answered : FormulaFile → Result (Unit {0}) ProofFault → Type 0
Answered a result = Proves a.goal.vars (formulas_in a.terms a.goal.hypotheses) (formula_in a.terms a.goal.goal) (proof_of a.proof) result

listed : (P : List T.Formula → Type 0) (fs : List T.Formula) → P fs → P (T.parts (T.formulas fs))
listed P fs h = subst P (sym (parts_formulas fs)) h

-- a proof that derives its goal makes the verdict
pub derived_makes_verdict : (bytes : List ℕ) (a : FormulaFile) (u : Unit {0}) → Says file_reading bytes (claim_in a) → Answered a (Ok u) → IsVerdict bytes (Ok u)
derived_makes_verdict bytes a u says derives =
    (claim_in a, says, listed (λ H. DerivesGoal a.goal.vars H (formula_in a.terms a.goal.goal) (proof_of a.proof)) (formulas_in a.terms a.goal.hypotheses) derives)

-- a proof that was not found to hold makes the verdict a refusal
pub not_proved : (bytes : List ℕ) (a : FormulaFile) (fault : ProofFault) → Says file_reading bytes (claim_in a) → Answered a (Err fault)
    → IsVerdict bytes (Err (fault_of fault))
not_proved bytes a (Bad step reason) says fails =
    inr (claim_in a, step, BadFlaw reason, says, listed (λ H. FailsGoal a.goal.vars H (formula_in a.terms a.goal.goal) (proof_of a.proof) step (BadFlaw reason)) (formulas_in a.terms a.goal.hypotheses) fails, refl)
not_proved bytes a (TooLarge step) says fails =
    inr (claim_in a, step, LargeFlaw, says, listed (λ H. FailsGoal a.goal.vars H (formula_in a.terms a.goal.goal) (proof_of a.proof) step LargeFlaw) (formulas_in a.terms a.goal.hypotheses) fails, refl)
not_proved bytes a NoMore says fails = tt

-- a fault of the file is its verdict
pub not_read : (bytes : List ℕ) (fault : Fault) → IsAnswerTo claim_in file_reading bytes (Err fault) → IsVerdict bytes (Err fault)
not_read bytes (Refused refusal) first = inl first
not_read bytes OutOfMemory h = tt

-- a fault of the text is the verdict
pub text_not_read : (bytes : List ℕ) (fault : Fault) (verdict : Result (Unit {0}) Fault) → IsTextFault fault (IsFirstFault bytes) → IsErrAnd verdict (λ f. f ≡ fault) → IsVerdict bytes verdict
text_not_read bytes fault (Ok u) h told = absurd told
text_not_read bytes fault (Err f) h told =
    let same : f ≡ fault = told in
    rw same (not_read bytes fault (text_fault claim_in file_reading bytes fault (Err fault) h refl))

-- the verdict on what is read of a file is the verdict on the file
pub verdict_of_whole : (file : List ℕ) (verdict : Result (Unit {0}) Fault) → IsVerdict (within_limit file) verdict → IsVerdict file verdict
verdict_of_whole file (Ok u) (claim, says, proves) = (claim, said_of_whole file_reading file claim says, proves)
verdict_of_whole file (Err (Refused refusal)) (inl first) = inl (refusal_of_whole file_reading file refusal first)
verdict_of_whole file (Err (Refused refusal)) (inr (claim, step, flaw, says, fails, is)) = inr (claim, step, flaw, said_of_whole file_reading file claim says, fails, is)
verdict_of_whole file (Err OutOfMemory) h = tt

-- what is reported about the verdict on what is read answers the file
pub verdict_answers_file : (known : Option (List ℕ)) (bytes seen : List ℕ) (verdict : Result (Unit {0}) Fault) (text : List ℕ) (status : ℕ) → OfFile known (λ file. bytes ≡ within_limit file) → seen ≡ bytes
    → IsVerdict seen verdict → Told (codes "proved") verdict text status → OfFile known (λ file. AnswersFormula file text status)
verdict_answers_file known bytes seen verdict text status read same is told = read_so known read (λ file read. (verdict, verdict_of_whole file verdict (subst (λ b. IsVerdict b verdict) (same ∙ read) is), told))
