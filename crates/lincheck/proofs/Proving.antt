-- What a development's file and a file of hints are answered, from the beginnings of them that are read.
use Rattle.std.proofs.Common.{◌≡◌, ℕ, List, [], length, Option, IfOk, IfErr, Result, Ok, Err, sym, subst, ◌∙◌, inl, inr}
use Rattle.lc_base.specs.declared.refusal.Fault.{Fault}
use Rattle.lc_base.specs.declared.refusal.Fault.TheVariants.{Refused, OutOfMemory}
use Rattle.lc_cert.specs.CertificateView.{entries_in}
use Rattle.lc_cert.specs.Certificates.{Entry}
use Rattle.lc_cert.specs.Printed.{certificate_line, EntryReadsBack, IsPrintable}
use Rattle.lc_cert.specs.declared.certificate.Certificate.{Certificate}
use Rattle.lc_check.specs.Verdicts.{AreProved, IsProvenBy}
use Rattle.lc_cond.specs.Conditions.{conditions}
use Rattle.lc_find.specs.Faults.{IsInRange, IsOkOrNoMemory}
use Rattle.lc_find.specs.Found.{TakesFirst}
use Rattle.lc_find.specs.Hinted.{by_entries}
use Rattle.lc_find.specs.declared.fault.FindFault.{FindFault}
use Rattle.lc_find.specs.declared.fault.FindFault.TheVariants.{NotFound, Budget, Large, OutOfMemory as NoMemory}
use Rattle.lc_hints.specs.Files as H
use Rattle.lc_hints.specs.HintView.{proofs_in}
use Rattle.lc_hints.specs.Readings.{hints_reading}
use Rattle.lc_hints.specs.declared.hints.Hints.{Hints}
use Rattle.lc_outline.specs.Development.{Development}
use Rattle.lc_outline_text.specs.Developments.{file_reading}
use Rattle.lc_reading.specs.Files.{Says, IsFirstRefusal}
use Rattle.lc_term.specs.Lists.{Every}
use Rattle.lincheck.specs.Answers.{ToldFault}
use Rattle.lincheck.specs.Check.{TellsRefusal}
use Rattle.lincheck.specs.Prove.{ToldUnfound, ToldFound, AnswersFound, RefusesHints, OpensHints, AnswersHints, AnswersProve, AnswersHinted}
use Rattle.lincheck.specs.Reading.{OfFile, within_limit}
use Rattle.lincheck.specs.declared.answer.Answer.{Answer}
use Rattle.lincheck.specs.declared.answer.Failure.{Failure}
use Rattle.lincheck.proofs.Read.{read_so}
use Rattle.lincheck.proofs.Truncated.{said_of_whole, refusal_of_whole}

-- a fault that is reported is not `OutOfMemory`
told_other : (fault : FindFault) (text : List ℕ) (status : ℕ) → ToldUnfound fault text status → IsOkOrNoMemory {A = Certificate} (Err fault) → ⊥
told_other (NotFound k) text status told none = none
told_other (Budget k) text status told none = none
told_other (Large k) text status told none = none
told_other NoMemory text status told none = told

-- what is found is the answer
pub found_answered : (D : Development) (hs : List Entry) (found : Result Certificate FindFault) (text : List ℕ) (status : ℕ)
    → IfOk found (λ c. IsProvenBy D (certificate_line D (entries_in c))) → IfErr found (IsInRange (length (conditions D)))
    → (Every (EntryReadsBack D) hs → AreProved hs 0 (conditions D) → IsPrintable D (by_entries hs 0 (conditions D)) → IsOkOrNoMemory found)
    → IfOk found (λ c. TakesFirst D hs (entries_in c)) → Every (EntryReadsBack D) hs → ToldFound D found text status → AnswersFound D hs text status
found_answered D hs (Ok c) text status accepted range by first back told =
    inl (record { proofs = entries_in c; line = told.0; accepted = subst (IsProvenBy D) (sym told.0) accepted; first = first }, told.1)
found_answered D hs (Err fault) text status accepted range by first back told = inr (fault, range, λ whole. told_other fault text status told (by back whole.0 whole.1), told)

-- ---- the hints

pub hints_opened : (D : Development) (known : Option (List ℕ)) (bytes seen : List ℕ) (hints : Hints) → OfFile known (λ file. bytes ≡ within_limit file) → seen ≡ bytes → H.IsAnswerTo D seen (Ok hints)
    → OfFile known (λ file. OpensHints D file (Ok hints))
hints_opened D known bytes seen hints read same (hs, says, has) = read_so known read (λ file read. (hs, said_of_whole (hints_reading D) file hs (subst (λ b. Says (hints_reading D) b hs) (same ∙ read) says), has))

pub hints_refused : (D : Development) (known : Option (List ℕ)) (bytes seen : List ℕ) (fault : Fault) (text : List ℕ) (status : ℕ) → OfFile known (λ file. bytes ≡ within_limit file) → seen ≡ bytes
    → H.IsAnswerTo D seen (Err fault) → ToldFault fault text status → OfFile known (λ file. RefusesHints D file text status)
hints_refused D known bytes seen (Refused refusal) text status read same is told = read_so known read (λ file read. (refusal, refusal_of_whole (hints_reading D) file refusal (subst (λ b. IsFirstRefusal (hints_reading D) b refusal) (same ∙ read) is), told))
hints_refused D known bytes seen OutOfMemory text status read same is told = absurd told

pub hints_answered : (D : Development) (known : Option (List ℕ)) (hints : Hints) (text : List ℕ) (status : ℕ) → OfFile known (λ file. OpensHints D file (Ok hints)) → AnswersFound D (proofs_in hints) text status
    → OfFile known (λ file. AnswersHints D file text status)
hints_answered D known hints text status opens answers = read_so known opens (λ file (hs, says, has). inr (hs, says, subst (λ es. AnswersFound D es text status) has.proofs answers))

pub hints_told : (D : Development) (known : Option (List ℕ)) (answer : Answer) → OfFile known (λ file. OpensHints D file (Err answer)) → OfFile known (λ file. AnswersHints D file answer.text.items answer.status)
hints_told D known answer tells = read_so known tells (λ file tells. inl tells)

-- ---- the development

pub proved_alone : (known : Option (List ℕ)) (D : Development) (hs : List Entry) (text : List ℕ) (status : ℕ) → OfFile known (λ file. Says file_reading file D) → hs ≡ [] → AnswersFound D hs text status
    → OfFile known (λ file. AnswersProve file text status)
proved_alone known D hs text status says none answers = read_so known says (λ file says. inr (D, says, subst (λ es. AnswersFound D es text status) none answers))

pub prove_refused : (known : Option (List ℕ)) (text : List ℕ) (status : ℕ) → OfFile known (λ file. TellsRefusal file text status) → OfFile known (λ file. AnswersProve file text status)
prove_refused known text status tells = read_so known tells (λ file tells. inl tells)

pub hinted_refused : (known hints : Option (List ℕ)) (text : List ℕ) (status : ℕ) → OfFile known (λ file. TellsRefusal file text status) → OfFile known (λ file. AnswersHinted file hints text status)
hinted_refused known hints text status tells = read_so known tells (λ file tells. inl tells)

pub hinted_answered : (known hints hints' : Option (List ℕ)) (D : Development) (result : Result Answer Failure) → OfFile known (λ file. Says file_reading file D) → hints' ≡ hints
    → IfOk result (λ answer. OfFile hints' (λ file. AnswersHints D file answer.text.items answer.status))
    → IfOk result (λ answer. OfFile known (λ file. AnswersHinted file hints answer.text.items answer.status))
hinted_answered known hints hints' D (Ok answer) says keeps answers = read_so known says (λ file says. inr (D, says, subst (λ c. OfFile c (λ f. AnswersHints D f answer.text.items answer.status)) keeps answers))
hinted_answered known hints hints' D (Err failure) says keeps answers = tt
