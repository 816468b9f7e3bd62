-- The answers to a development's file, and to a development's file and a certificate's.
use Rattle.std.specs.Prelude.{◌≡◌, ℕ, ◌⊎◌, List, [], ◌∷◌, ◌++◌, codes, length, Option, Result, Ok, Err}
use Rattle.lc_base.specs.Line.{line_of}
use Rattle.lc_base.specs.declared.refusal.Fault.TheVariants.{Refused}
use Rattle.lc_base.specs.declared.refusal.Refusal.{Refusal}
use Rattle.lc_check.specs.Verdicts.{IsProvenBy, IsCertificateRefusal}
use Rattle.lc_check.specs.VerdictView.{development_in}
use Rattle.lc_check.specs.declared.verdict.Finished.{Finished}
use Rattle.lc_check.specs.declared.verdict.Finished.TheVariants.{Accepted as Proves, Refused as FailsFor}
use Rattle.lc_check.specs.declared.verdict.Verdict.{Verdict}
use Rattle.lc_check.specs.declared.verdict.Verdict.TheVariants.{Accepted, Refused as IsRefused}
use Rattle.lc_cond.specs.Conditions.{conditions}
use Rattle.lc_outline.specs.Development as S
use Rattle.lc_outline.specs.DevelopmentView.{development_view}
use Rattle.lc_outline.specs.declared.development.Development.{Development}
use Rattle.lc_outline_text.specs.Developments.{file_reading}
use Rattle.lc_reading.specs.Files.{Says, IsFirstRefusal}
use Rattle.lincheck.specs.Answers.{ToldFault}
use Rattle.lincheck.specs.Reading.{OfFile}
use Rattle.lincheck.specs.declared.answer.Answer.{Answer}

-- the file is no development, and its first refusal is reported
abbrev pub TellsRefusal : List ℕ → List ℕ → ℕ → Type 0
TellsRefusal file text status = (refusal : Refusal) × IsFirstRefusal file_reading file refusal × ToldFault (Refused refusal) text status

-- a file is opened: it says this development; or its refusal is reported
abbrev pub OpensAs : List ℕ → Result Development Answer → Type 0
OpensAs file (Ok development) = Says file_reading file (development_view development)
OpensAs file (Err answer) = TellsRefusal file answer.text.items answer.status

-- The answer to a development's file, for which this text is printed: that text and status 0; or its first refusal
abbrev pub AnswersDevelopment : (S.Development → List ℕ) → List ℕ → List ℕ → ℕ → Type 0
AnswersDevelopment text_of file text status =
    TellsRefusal file text status ⊎ ((D : S.Development) × Says file_reading file D × (text ≡ text_of D) × (status ≡ 0))

-- the line `accepted`, with the name of the object and the number of the conditions
abbrev pub accepted_line : S.Development → List ℕ
accepted_line D = line_of (codes "accepted " ++ D.object.name) (length (conditions D) ∷ [])

-- the answer to a certificate's file: that line and status 0 if it proves each condition of the development and nothing
-- else; else its first refusal
abbrev pub AnswersCertificate : S.Development → List ℕ → List ℕ → ℕ → Type 0
AnswersCertificate D file text status =
    (IsProvenBy D file × (text ≡ accepted_line D) × (status ≡ 0)) ⊎ ((refusal : Refusal) × IsCertificateRefusal D file refusal × ToldFault (Refused refusal) text status)

-- a verdict is reported by that line and status 0, or as a refusal
abbrev pub TellsVerdict : Verdict → List ℕ → ℕ → Type 0
TellsVerdict (Accepted accepted) text status = (text ≡ accepted_line (development_in accepted)) × (status ≡ 0)
TellsVerdict (IsRefused refusal) text status = ToldFault (Refused refusal) text status

-- what a session comes to is reported so too
abbrev pub TellsFinished : Finished → List ℕ → ℕ → Type 0
TellsFinished (Proves accepted) text status = (text ≡ accepted_line (development_in accepted)) × (status ≡ 0)
TellsFinished (FailsFor refusal development) text status = ToldFault (Refused refusal) text status

-- The answer to a development's file and a certificate's: a refusal of the development decides, whatever the other file has
abbrev pub AnswersCheck : List ℕ → Option (List ℕ) → List ℕ → ℕ → Type 0
AnswersCheck development certificate text status =
    TellsRefusal development text status
    ⊎ ((D : S.Development) × Says file_reading development D × OfFile certificate (λ file. AnswersCertificate D file text status))
