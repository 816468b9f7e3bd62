-- A development's file and a certificate's have one answer, and what is accepted is linearizable.
use Rattle.std.proofs.Common.{◌≡◌, ℕ, inl, inr, List, Some, refl, sym, ap, ◌∙◌}
use Rattle.lc_base.specs.Line.{refusal_line_of}
use Rattle.lc_base.specs.declared.refusal.Refusal.{Refusal}
use Rattle.lc_check.proofs.AcceptedObjects.{accepted_is_linearizable}
use Rattle.lc_check.proofs.OneVerdict.{not_accepted_and_refused, accepted_once, verdict_refused_once}
use Rattle.lc_check.specs.Verdicts.{IsAccepted, IsRefused}
use Rattle.lc_outline.specs.Development.{Development}
use Rattle.lc_outline_text.specs.Developments.{file_reading}
use Rattle.lc_reading.specs.Files.{Says}
use Rattle.lc_sound.specs.Linearizable.{IsLinearizableObject}
use Rattle.lincheck.specs.Check.{accepted_line, AnswersCertificate, AnswersCheck}
use Rattle.lincheck.proofs.Read.{read_known}

-- the two files are accepted, or they are refused, and that is reported
data IsTold (dev cert : List ℕ) (text : List ℕ) (status : ℕ) : Type 0 where
  accepts : (D : Development) → IsAccepted dev cert D → text ≡ accepted_line D → status ≡ 0 → IsTold dev cert text status
  refuses : (r : Refusal) → IsRefused dev cert r → text ≡ refusal_line_of r → status ≡ 1 → IsTold dev cert text status

told_certificate : (dev cert text : List ℕ) (status : ℕ) (D : Development) → Says file_reading dev D → AnswersCertificate D cert text status → IsTold dev cert text status
told_certificate dev cert text status D says (inl (proven, line, is)) = accepts D (says, proven) line is
told_certificate dev cert text status D says (inr (r, refused, (line, is))) = refuses r (inr (D, says, refused)) line is

told : (dev cert text : List ℕ) (status : ℕ) → AnswersCheck dev (Some cert) text status → IsTold dev cert text status
told dev cert text status (inl (r, first, (line, is))) = refuses r (inl first) line is
told dev cert text status (inr (D, says, answers)) = told_certificate dev cert text status D says (read_known {known = Some cert} {file = cert} (λ f. AnswersCertificate D f text status) refl answers)

told_once : (dev cert text text' : List ℕ) (status status' : ℕ) → IsTold dev cert text status → IsTold dev cert text' status' → (text ≡ text') × (status ≡ status')
told_once dev cert text text' status status' (accepts D h line is) (accepts E g line' is') =
    (line ∙ ap accepted_line (accepted_once dev cert D E h g) ∙ sym line', is ∙ sym is')
told_once dev cert text text' status status' (accepts D h line is) (refuses r g line' is') = absurd (not_accepted_and_refused dev cert D r h g)
told_once dev cert text text' status status' (refuses r h line is) (accepts D g line' is') = absurd (not_accepted_and_refused dev cert D r g h)
told_once dev cert text text' status status' (refuses r h line is) (refuses s g line' is') =
    (line ∙ ap refusal_line_of (verdict_refused_once dev cert r s h g) ∙ sym line', is ∙ sym is')

pub one_check_answer : (dev cert text text' : List ℕ) (status status' : ℕ) → AnswersCheck dev (Some cert) text status → AnswersCheck dev (Some cert) text' status' → (text ≡ text') × (status ≡ status')
one_check_answer dev cert text text' status status' h g = told_once dev cert text text' status status' (told dev cert text status h) (told dev cert text' status' g)

linearizable : (dev cert text : List ℕ) → IsTold dev cert text 0 → (D : Development) × Says file_reading dev D × IsLinearizableObject D.specification D.object
linearizable dev cert text (accepts D h line is) = (D, h.0, accepted_is_linearizable dev cert D h)
linearizable dev cert text (refuses r h line is) = absurd (let e : 0 ≡ 1 = is in cc)

pub checked_is_linearizable : (dev cert text : List ℕ) → AnswersCheck dev (Some cert) text 0 → (D : Development) × Says file_reading dev D × IsLinearizableObject D.specification D.object
checked_is_linearizable dev cert text h = linearizable dev cert text (told dev cert text 0 h)
