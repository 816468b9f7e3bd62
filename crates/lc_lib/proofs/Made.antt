-- What is returned when a certificate is asked for, step by step.
use Rattle.std.proofs.Common.{◌≡◌, List, ℕ, IfOk, Result, Ok, Err, refl, sym, ap, ◌∙◌, subst, inl, inr}
use Rattle.std.specs.Prelude.{Vec}
use Rattle.std.specs.declared.alloc.Global.{Global}
use Rattle.lc_base.specs.declared.refusal.Refusal.{Refusal}
use Rattle.lc_reading.specs.Files.{Says, IsFirstRefusal}
use Rattle.lc_outline.specs.Development.{Development}
use Rattle.lc_outline.specs.DevelopmentView.{development_view}
use Rattle.lc_outline.specs.declared.development.Development.{Development as Value}
use Rattle.lc_outline_text.specs.Developments.{file_reading}
use Rattle.lc_cert.specs.CertificateView.{entries_in}
use Rattle.lc_cert.specs.Certificates.{Entry}
use Rattle.lc_cert.specs.Printed.{certificate_line}
use Rattle.lc_cert.specs.declared.certificate.Certificate.{Certificate}
use Rattle.lc_cond.specs.Conditions.{conditions}
use Rattle.lc_check.specs.Verdicts.{IsAccepted, IsProvenBy}
use Rattle.lc_find.specs.Found.{IsByHints}
use Rattle.lc_find.specs.Hinted.{by_entries}
use Rattle.lc_find.specs.declared.fault.FindFault.{FindFault}
use Rattle.lc_find.specs.declared.fault.FindFault.TheVariants.{NotFound, Budget, Large, OutOfMemory}
use Rattle.lc_hints.specs.Hints.{Hint}
use Rattle.lc_hints.specs.HintView.{HasHints, proofs_in}
use Rattle.lc_hints.specs.Readings.{hints_reading}
use Rattle.lc_hints.specs.declared.hints.Hints.{Hints}
use Rattle.lc_lib.specs.Certified.{AreReadHints, IsByProofs, IsCertificateAnswer, IsReadDevelopment, IsUncertified}
use Rattle.lc_lib_texts.specs.Texts.{development_bytes, hint_bytes}
use Rattle.lc_lib_texts.specs.declared.library.Lib.{Lib}

-- ---- the texts are read

pub development_read : (lib : Lib) (bytes : List ℕ) (value : Value) → bytes ≡ development_bytes lib → Says file_reading bytes (development_view value)
    → Says file_reading (development_bytes lib) (development_view value)
development_read lib bytes value is says = subst (λ b. Says file_reading b (development_view value)) is says

pub development_unread : (lib : Lib) (bytes : List ℕ) (refusal : Refusal) → bytes ≡ development_bytes lib → IsFirstRefusal file_reading bytes refusal
    → IsReadDevelopment lib (Err (NotFound 0))
development_unread lib bytes refusal is refused = (refl, (refusal, subst (λ b. IsFirstRefusal file_reading b refusal) is refused))

pub hints_read : (lib : Lib) (D : Development) (bytes : List ℕ) (value : Hints) → bytes ≡ hint_bytes lib
    → ((hs : List Hint) × Says (hints_reading D) bytes hs × HasHints hs value) → AreReadHints lib D (Ok value)
hints_read lib D bytes value is (hs, says, has) = (hs, subst (λ b. Says (hints_reading D) b hs) is says, has)

pub hints_unread : (lib : Lib) (D : Development) (bytes : List ℕ) (refusal : Refusal) → bytes ≡ hint_bytes lib → IsFirstRefusal (hints_reading D) bytes refusal
    → AreReadHints lib D (Err (NotFound 0))
hints_unread lib D bytes refusal is refused = (refl, (refusal, subst (λ b. IsFirstRefusal (hints_reading D) b refusal) is refused))

-- ---- the certificate of these proofs

pub text_made : (D : Development) (proofs : List Entry) (certificate : Certificate) (text : Vec ℕ Global) → IsProvenBy D (certificate_line D (entries_in certificate))
    → IsByHints D proofs (Ok certificate) → text.items ≡ certificate_line D (entries_in certificate) → IsByProofs D proofs (Ok text)
text_made D proofs certificate text accepted by line = (line ∙ ap (certificate_line D) by.1, subst (IsProvenBy D) (sym line) accepted)

pub none_made : (D : Development) (proofs : List Entry) (fault : FindFault) → IsByHints D proofs (Err fault) → IsByProofs D proofs (Err fault)
none_made D proofs (NotFound k) by = by
none_made D proofs (Budget k) by = by
none_made D proofs (Large k) by = by
none_made D proofs OutOfMemory by = by

-- ---- the answer

pub development_fault_answers : (lib : Lib) (fault : FindFault) → IsReadDevelopment lib (Err fault) → IsCertificateAnswer lib (Err fault)
development_fault_answers lib (NotFound k) (is, refused) = (is, inl refused)
development_fault_answers lib (Budget k) never = absurd never
development_fault_answers lib (Large k) never = absurd never
development_fault_answers lib OutOfMemory any = tt

pub hints_fault_answers : (lib : Lib) (D : Development) (fault : FindFault) → Says file_reading (development_bytes lib) D → AreReadHints lib D (Err fault)
    → IsCertificateAnswer lib (Err fault)
hints_fault_answers lib D (NotFound k) says (is, (refusal, refused)) = (is, inr (D, refusal, says, refused))
hints_fault_answers lib D (Budget k) says never = absurd never
hints_fault_answers lib D (Large k) says never = absurd never
hints_fault_answers lib D OutOfMemory says any = tt

pub result_answers_certificate : (lib : Lib) (D : Development) (value : Hints) (result : Result (Vec ℕ Global) FindFault) → Says file_reading (development_bytes lib) D
    → AreReadHints lib D (Ok value) → IsByProofs D (proofs_in value) result → IsCertificateAnswer lib result
result_answers_certificate lib D value (Ok text) says (hs, hinted, has) made = (
  D,
  hs,
  record {
    read = record { development = says; hints = hinted };
    line = made.0 ∙ ap (λ es. certificate_line D (by_entries es 0 (conditions D))) has.proofs;
    accepted = (says, made.1);
  },
)
result_answers_certificate lib D value (Err (NotFound k)) says hinted never = absurd never
result_answers_certificate lib D value (Err (Budget k)) says (hs, hinted, has) made =
    (D, hs, record { development = says; hints = hinted }, subst (λ es. IsUncertified D es k) has.proofs made)
result_answers_certificate lib D value (Err (Large k)) says hinted never = absurd never
result_answers_certificate lib D value (Err OutOfMemory) says hinted any = tt

pub accepted_answer : (lib : Lib) (result : Result (Vec ℕ Global) FindFault) → IsCertificateAnswer lib result
    → IfOk result (λ text. (D : Development) × IsAccepted (development_bytes lib) text.items D)
accepted_answer lib (Ok text) (D, hs, is) = (D, is.accepted)
accepted_answer lib (Err fault) any = tt
