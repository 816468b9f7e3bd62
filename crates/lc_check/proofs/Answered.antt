-- The verdict from the answers to the files and to the proofs.
use Rattle.std.proofs.Common.{◌≡◌, ℕ, inl, inr, List, ◌++◌, Ok, Err, sym, ap, ◌∙◌, subst, append-nil}
use Rattle.std.specs.Prelude.{Result, IfOk}
use Rattle.lc_base.specs.declared.refusal.Fault.{Fault}
use Rattle.lc_base.specs.declared.refusal.Fault.TheVariants.{Refused, OutOfMemory}
use Rattle.lc_reading.specs.Files.{Says}
use Rattle.lc_outline.specs.Development.{Development}
use Rattle.lc_outline_text.specs.Developments.{file_reading}
use Rattle.lc_cert.specs.Certificates.{Entry}
use Rattle.lc_cert.specs.Files.{Certifies}
use Rattle.lc_cert.specs.Pieces.{IsAnswerOf, waiting}
use Rattle.lc_cert.specs.declared.cert_reader.CertReader.{CertReader}
use Rattle.lc_cond.specs.Conditions.{conditions}
use Rattle.lc_cond.specs.Uses.{AllUseTheirVariables}
use Rattle.lc_sound.specs.Derived.{AreDerived}
use Rattle.lc_check.proofs.Derived.{all_derived}
use Rattle.lc_check.specs.Answers.{CountsAll}
use Rattle.lc_check.specs.UpTo.{IsUpTo}
use Rattle.lc_check.specs.VerdictView.{development_in, IsVerdictOn, IsVerdict, IsCountOn, IsFinishedOn, IfAccepted}
use Rattle.lc_check.specs.Verdicts.{IsAccepted}
use Rattle.lc_check.specs.declared.progress.Progress.{Progress}
use Rattle.lc_check.specs.declared.verdict.Finished.{Finished}
use Rattle.lc_check.specs.declared.verdict.Verdict.{Verdict}
use Rattle.lc_check.specs.declared.verdict.Verdict.TheVariants.{Accepted as Accepts, Refused as Refuses}

-- ---- a development and a certificate file

-- all its proofs were taken
pub read_all : (D : Development) (cert : List ℕ) (r : CertReader) (p : Progress) (u : Unit {0}) (h : IsUpTo D cert r p) → IsAnswerOf D cert (h.taken ++ waiting r) (Ok u) → Certifies D cert h.taken
read_all D cert r p u h answer = subst (Certifies D cert) (ap (λ es. h.taken ++ es) h.none ∙ append-nil h.taken) answer

counted_derived : (D : Development) (es : List Entry) (n : ℕ) → AllUseTheirVariables D → CountsAll es (conditions D) (Ok n) → AreDerived D
counted_derived D es n uses h = all_derived es 0 (conditions D) uses h.1.0

pub not_counted : (D : Development) (cert : List ℕ) (es : List Entry) (fault : Fault) → IsAnswerOf D cert es (Err fault) → IsCountOn D cert (Err fault)
not_counted D cert es (Refused r) h = inl h
not_counted D cert es OutOfMemory h = tt

pub counted_on : (D : Development) (cert : List ℕ) (es : List Entry) (result : Result ℕ Fault) → Certifies D cert es → CountsAll es (conditions D) result → IsCountOn D cert result
counted_on D cert es (Ok n) certifies h = (h.0, (es, certifies, h.1))
counted_on D cert es (Err (Refused r)) certifies h = inr (es, certifies, h)
counted_on D cert es (Err OutOfMemory) certifies h = tt

pub count_derived : (D : Development) (cert : List ℕ) (n : ℕ) → AllUseTheirVariables D → IsCountOn D cert (Ok n) → AreDerived D
count_derived D cert n uses h = counted_derived D h.1.0 n uses (h.0, h.1.2)

-- what is returned for a development that is known otherwise
pub finished_of : {F : Type 0} (D E : Development) (cert : List ℕ) (r : CertReader) (p : Progress) (result : Result Finished F) → D ≡ E → IsUpTo E cert r p
    → ((fed : List ℕ) → IsUpTo D fed r p → IfOk result (IsFinishedOn D fed)) → IfOk result (IsFinishedOn E cert)
finished_of D E cert r p result e up f = subst (λ d. IfOk result (IsFinishedOn d cert)) e (f cert (subst (λ d. IsUpTo d cert r p) (sym e) up))

-- ---- two files

verdict_on : (dev cert : List ℕ) (D : Development) (v : Verdict) → Says file_reading dev D → IsVerdictOn D cert v → IsVerdict dev cert v
verdict_on dev cert D (Accepts a) says h = subst (IsAccepted dev cert) (sym h.0) (says, h.1)
verdict_on dev cert D (Refuses r) says h = inr (D, says, h)

pub on_development : {E : Type 0} (dev cert : List ℕ) (D : Development) (result : Result Verdict E) → Says file_reading dev D → IfOk result (IsVerdictOn D cert) → IfOk result (IsVerdict dev cert)
on_development dev cert D (Ok v) says h = verdict_on dev cert D v says h
on_development dev cert D (Err e) says h = tt

-- what is accepted is what the file says, of each file for which the answer is the verdict
pub said_too : {E : Type 0} (Fed : List ℕ → List ℕ → Type 0) (P : Development → Type 0) (result : Result Verdict E) → ((dev cert : List ℕ) → Fed dev cert → IfOk result (IsVerdict dev cert)) → IfAccepted result P
    → IfAccepted result (λ D. ((dev cert : List ℕ) → Fed dev cert → Says file_reading dev D) × P D)
said_too Fed P (Ok (Accepts a)) exactly h = (λ dev cert fed. (exactly dev cert fed).0, h)
said_too Fed P (Ok (Refuses r)) exactly h = tt
said_too Fed P (Err e) exactly h = tt

pub said_of : {E : Type 0} (Fed : List ℕ → List ℕ → Type 0) (P : Development → Type 0) (dev cert : List ℕ) (result : Result Verdict E) → Fed dev cert
    → IfAccepted result (λ D. ((file other : List ℕ) → Fed file other → Says file_reading file D) × P D) → IfAccepted result (λ D. Says file_reading dev D × P D)
said_of Fed P dev cert (Ok (Accepts a)) fed h = (h.0 dev cert fed, h.1)
said_of Fed P dev cert (Ok (Refuses r)) fed h = tt
said_of Fed P dev cert (Err e) fed h = tt
