-- What a development's file and a certificate's are answered, from the beginnings of them that are read.
use Rattle.std.proofs.Common.{◌≡◌, ℕ, List, Option, IfOk, Result, Ok, Err, refl, ap, subst, ◌∙◌, inl, inr}
use Rattle.lc_base.specs.declared.refusal.Fault.{Fault}
use Rattle.lc_base.specs.declared.refusal.Fault.TheVariants.{Refused, OutOfMemory}
use Rattle.lc_base.specs.declared.refusal.Refusal.{Refusal}
use Rattle.lc_cert.specs.Files as C
use Rattle.lc_cert.specs.Readings.{certificate_reading}
use Rattle.lc_check.specs.Verdicts.{IsProvenBy, IsCertificateRefusal}
use Rattle.lc_check.specs.VerdictView.{IsVerdictOn, IsFinishedOn}
use Rattle.lc_check.specs.declared.verdict.Finished.{Finished}
use Rattle.lc_check.specs.declared.verdict.Finished.TheVariants.{Accepted as Proves, Refused as FailsFor}
use Rattle.lc_check.specs.declared.verdict.Verdict.{Verdict}
use Rattle.lc_check.specs.declared.verdict.Verdict.TheVariants.{Accepted, Refused as IsRefused}
use Rattle.lc_outline.specs.Development as S
use Rattle.lc_outline.specs.DevelopmentView.{development_view}
use Rattle.lc_outline.specs.declared.development.Development.{Development}
use Rattle.lc_outline_text.specs.Developments.{file_reading}
use Rattle.lc_reading.proofs.Files.{says_not_refused}
use Rattle.lc_reading.specs.Files.{Says, IsFirstRefusal, IsAnswerTo}
use Rattle.lincheck.specs.Answers.{ToldFault}
use Rattle.lc_words.specs.Tasks.{CheckCertificate}
use Rattle.lincheck.specs.Check.{TellsRefusal, AnswersDevelopment, AnswersCertificate, AnswersCheck, TellsVerdict, TellsFinished, accepted_line}
use Rattle.lincheck.specs.Execution.{IsUnread}
use Rattle.lincheck.specs.Reading.{OfFile, within_limit, most_bytes}
use Rattle.lincheck.specs.declared.answer.Answer.{Answer}
use Rattle.lincheck.specs.declared.answer.Failure.{Failure}
use Rattle.lincheck.proofs.Read.{read_known, read_so}
use Rattle.lincheck.proofs.Truncated.{said_of_whole, refusal_of_whole, fault_of_whole, reading_of_whole}

-- what is read of a file says what the file says, or is refused as the file is
pub opened_file_says : (known : Option (List ℕ)) (bytes seen : List ℕ) (d : Development) → OfFile known (λ file. bytes ≡ within_limit file) → seen ≡ bytes → Says file_reading seen (development_view d)
    → OfFile known (λ file. Says file_reading file (development_view d))
opened_file_says known bytes seen d read same says = read_so known read (λ file read. said_of_whole file_reading file (development_view d) (subst (λ b. Says file_reading b (development_view d)) (same ∙ read) says))

pub refused_file_told : (known : Option (List ℕ)) (bytes seen : List ℕ) (fault : Fault) (text : List ℕ) (status : ℕ) → OfFile known (λ file. bytes ≡ within_limit file) → seen ≡ bytes
    → IsAnswerTo development_view file_reading seen (Err fault) → ToldFault fault text status → OfFile known (λ file. TellsRefusal file text status)
refused_file_told known bytes seen (Refused refusal) text status read same is told = read_so known read (λ file read. (refusal, refusal_of_whole file_reading file refusal (subst (λ b. IsFirstRefusal file_reading b refusal) (same ∙ read) is), told))
refused_file_told known bytes seen OutOfMemory text status read same is told = absurd told

-- a text of a development that is read answers its file, and so does a refusal that is reported
pub text_answers_development : (text_of : S.Development → List ℕ) (known : Option (List ℕ)) (D : S.Development) (text : List ℕ) → OfFile known (λ file. Says file_reading file D) → text ≡ text_of D
    → OfFile known (λ file. AnswersDevelopment text_of file text 0)
text_answers_development text_of known D text says is = read_so known says (λ file says. inr (D, says, is, refl))

pub told_refused : (text_of : S.Development → List ℕ) (known : Option (List ℕ)) (text : List ℕ) (status : ℕ) → OfFile known (λ file. TellsRefusal file text status)
    → OfFile known (λ file. AnswersDevelopment text_of file text status)
told_refused text_of known text status tells = read_so known tells (λ file tells. inl tells)

-- ---- a certificate

-- what the beginning of a file proves and is refused for, so is the file
proven_of_whole : (D : S.Development) (file : List ℕ) → IsProvenBy D (within_limit file) → IsProvenBy D file
proven_of_whole D file (es, certifies, proves) = (es, said_of_whole (certificate_reading D) file es certifies, proves)

certificate_of_whole : (D : S.Development) (file : List ℕ) (refusal : Refusal) → C.IsFirstRefusal D (within_limit file) refusal → C.IsFirstRefusal D file refusal
certificate_of_whole D file refusal (inl (offset, is, fault)) = inl (offset, is, fault_of_whole most_bytes file offset refl fault)
certificate_of_whole D file refusal (inr (ts, flaw, reads, flawed, is)) = inr (ts, flaw, reading_of_whole most_bytes file ts refl reads, flawed, is)

pub refusal_of_certificate : (D : S.Development) (file : List ℕ) (refusal : Refusal) → IsCertificateRefusal D (within_limit file) refusal → IsCertificateRefusal D file refusal
refusal_of_certificate D file refusal (inl first) = inl (certificate_of_whole D file refusal first)
refusal_of_certificate D file refusal (inr (es, certifies, refuses)) = inr (es, said_of_whole (certificate_reading D) file es certifies, refuses)

-- the verdict on what is read of it, as it is reported, answers the file
verdict_told : (D : S.Development) (file : List ℕ) (verdict : Verdict) (text : List ℕ) (status : ℕ) → IsVerdictOn D (within_limit file) verdict → TellsVerdict verdict text status → AnswersCertificate D file text status
verdict_told D file (Accepted accepted) text status (same, proven) (is, zero) = inl (proven_of_whole D file proven, is ∙ ap accepted_line same, zero)
verdict_told D file (IsRefused refusal) text status refuses told = inr (refusal, refusal_of_certificate D file refusal refuses, told)

pub certificate_answered : (D : S.Development) (known : Option (List ℕ)) (bytes seen : List ℕ) (verdict : Verdict) (text : List ℕ) (status : ℕ)
    → OfFile known (λ file. bytes ≡ within_limit file) → seen ≡ bytes → IsVerdictOn D seen verdict → TellsVerdict verdict text status
    → OfFile known (λ file. AnswersCertificate D file text status)
certificate_answered D known bytes seen verdict text status read same is told = read_so known read (λ file read. verdict_told D file verdict text status (subst (λ b. IsVerdictOn D b verdict) (same ∙ read) is) told)

-- what a session comes to of what is read of it, as it is reported, answers the file
finished_told : (D : S.Development) (file : List ℕ) (finished : Finished) (text : List ℕ) (status : ℕ) → IsFinishedOn D (within_limit file) finished → TellsFinished finished text status → AnswersCertificate D file text status
finished_told D file (Proves accepted) text status (same, proven) (is, zero) = inl (proven_of_whole D file proven, is ∙ ap accepted_line same, zero)
finished_told D file (FailsFor refusal development) text status (same, refuses) told = inr (refusal, refusal_of_certificate D file refusal refuses, told)

pub certificate_finished : (D : S.Development) (known : Option (List ℕ)) (bytes : List ℕ) (finished : Finished) (text : List ℕ) (status : ℕ)
    → OfFile known (λ file. bytes ≡ within_limit file) → IsFinishedOn D bytes finished → TellsFinished finished text status
    → OfFile known (λ file. AnswersCertificate D file text status)
certificate_finished D known bytes finished text status read is told = read_so known read (λ file read. finished_told D file finished text status (subst (λ b. IsFinishedOn D b finished) read is) told)

-- ---- both files

pub check_answered : (known certificate certificate' : Option (List ℕ)) (D : S.Development) (result : Result Answer Failure) → OfFile known (λ file. Says file_reading file D) → certificate' ≡ certificate
    → IfOk result (λ answer. OfFile certificate' (λ file. AnswersCertificate D file answer.text.items answer.status))
    → IfOk result (λ answer. OfFile known (λ file. AnswersCheck file certificate answer.text.items answer.status))
check_answered known certificate certificate' D (Ok answer) says keeps answers = read_so known says (λ file says. inr (D, says, subst (λ c. OfFile c (λ f. AnswersCertificate D f answer.text.items answer.status)) keeps answers))
check_answered known certificate certificate' D (Err failure) says keeps answers = tt

pub check_refused : (known certificate : Option (List ℕ)) (text : List ℕ) (status : ℕ) → OfFile known (λ file. TellsRefusal file text status) → OfFile known (λ file. AnswersCheck file certificate text status)
check_refused known certificate text status tells = read_so known tells (λ file tells. inl tells)

pub refused_opens : (CannotOpen : List ℕ → Type 0) (bytes_at : List ℕ → Option (List ℕ)) (development certificate : List ℕ) (text : List ℕ) (status : ℕ)
    → (CannotOpen development → ⊥) → OfFile (bytes_at development) (λ file. TellsRefusal file text status) → IsUnread CannotOpen bytes_at (CheckCertificate development certificate) → ⊥
refused_opens CannotOpen bytes_at development certificate text status opens tells (inl closed) = opens closed
refused_opens CannotOpen bytes_at development certificate text status opens tells (inr (file, D, known, says, closed)) =
    let refuses : TellsRefusal file text status = read_known (λ f. TellsRefusal f text status) known tells in
    says_not_refused file_reading file D refuses.0 says refuses.1
