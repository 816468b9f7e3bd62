-- What verdicts of the code say.
use Rattle.std.specs.Prelude.{◌≡◌, ℕ, List, length, Result, Ok, Err}
use Rattle.lc_base.specs.declared.refusal.Fault.{Fault}
use Rattle.lc_base.specs.declared.refusal.Fault.TheVariants.{Refused as IsRefusedAs, OutOfMemory}
use Rattle.lc_outline.specs.Development.{Development}
use Rattle.lc_outline.specs.DevelopmentView.{development_view}
use Rattle.lc_cond.specs.Conditions.{conditions}
use Rattle.lc_check.specs.Verdicts.{IsProvenBy, IsCertificateRefusal, IsAccepted, IsRefused}
use Rattle.lc_check.specs.declared.verdict.Accepted.{Accepted}
use Rattle.lc_check.specs.declared.verdict.Finished.{Finished}
use Rattle.lc_check.specs.declared.verdict.Finished.TheVariants.{Accepted as Proves, Refused as FailsFor}
use Rattle.lc_check.specs.declared.verdict.Verdict.{Verdict}
use Rattle.lc_check.specs.declared.verdict.Verdict.TheVariants.{Accepted as Accepts, Refused as Refuses}

-- the development that is accepted
abbrev pub development_in : Accepted → Development
development_in a = development_view a.development

-- the verdict on a development and a certificate file
abbrev pub IsVerdictOn : Development → List ℕ → Verdict → Type 0
IsVerdictOn D cert (Accepts accepted) = (development_in accepted ≡ D) × IsProvenBy D cert
IsVerdictOn D cert (Refuses refusal) = IsCertificateRefusal D cert refusal

-- the verdict on a development file and a certificate file
abbrev pub IsVerdict : List ℕ → List ℕ → Verdict → Type 0
IsVerdict dev cert (Accepts accepted) = IsAccepted dev cert (development_in accepted)
IsVerdict dev cert (Refuses refusal) = IsRefused dev cert refusal

-- something holds of the development, if one is accepted
abbrev pub IfAccepted : {E : Type 0} → Result Verdict E → (Development → Type 0) → Type 0
IfAccepted (Ok (Accepts accepted)) P = P (development_in accepted)
IfAccepted (Ok (Refuses refusal)) P = Unit {0}
IfAccepted (Err e) P = Unit {0}

-- the verdict on a development and a certificate file, with the development
abbrev pub IsFinishedOn : Development → List ℕ → Finished → Type 0
IsFinishedOn D cert (Proves accepted) = (development_in accepted ≡ D) × IsProvenBy D cert
IsFinishedOn D cert (FailsFor refusal development) = (development_view development ≡ D) × IsCertificateRefusal D cert refusal

-- something holds of the development, if one is accepted
abbrev pub IfFinished : {E : Type 0} → Result Finished E → (Development → Type 0) → Type 0
IfFinished (Ok (Proves accepted)) P = P (development_in accepted)
IfFinished (Ok (FailsFor refusal development)) P = Unit {0}
IfFinished (Err e) P = Unit {0}

-- how many conditions a certificate file proves, if it is accepted; or the reason is reported; nothing on `OutOfMemory`
abbrev pub IsCountOn : Development → List ℕ → Result ℕ Fault → Type 0
IsCountOn D cert (Ok n) = (n ≡ length (conditions D)) × IsProvenBy D cert
IsCountOn D cert (Err (IsRefusedAs refusal)) = IsCertificateRefusal D cert refusal
IsCountOn D cert (Err OutOfMemory) = Unit {0}
