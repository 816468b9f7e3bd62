-- The answers to a development's file for which a certificate is to be found, without hints or with a file of such.
use Rattle.std.specs.Prelude.{◌≡◌, ℕ, ◌⊎◌, List, [], ◌∷◌, codes, length, Option, Result, Ok, Err}
use Rattle.lc_base.specs.Line.{line_of}
use Rattle.lc_base.specs.declared.refusal.Fault.TheVariants.{Refused}
use Rattle.lc_base.specs.declared.refusal.Refusal.{Refusal}
use Rattle.lc_cert.specs.CertificateView.{entries_in}
use Rattle.lc_cert.specs.Certificates.{Entry}
use Rattle.lc_cert.specs.Printed.{certificate_line, IsPrintable}
use Rattle.lc_cert.specs.declared.certificate.Certificate.{Certificate}
use Rattle.lc_check.specs.Verdicts.{AreProved, IsProvenBy}
use Rattle.lc_cond.specs.Conditions.{conditions}
use Rattle.lc_find.specs.Faults.{IsInRange}
use Rattle.lc_find.specs.Found.{TakesFirst}
use Rattle.lc_find.specs.Hinted.{by_entries}
use Rattle.lc_find.specs.declared.fault.FindFault.{FindFault}
use Rattle.lc_find.specs.declared.fault.FindFault.TheVariants.{NotFound, Budget, Large, OutOfMemory}
use Rattle.lc_hints.specs.Hints.{Hint, proofs_of}
use Rattle.lc_hints.specs.HintView.{HasHints}
use Rattle.lc_hints.specs.Readings.{hints_reading}
use Rattle.lc_hints.specs.declared.hints.Hints.{Hints}
use Rattle.lc_outline.specs.Development.{Development}
use Rattle.lc_outline_text.specs.Developments.{file_reading}
use Rattle.lc_reading.specs.Files.{Says, IsFirstRefusal}
use Rattle.lincheck.specs.Answers.{ToldFault}
use Rattle.lincheck.specs.Check.{TellsRefusal}
use Rattle.lincheck.specs.Reading.{OfFile}
use Rattle.lincheck.specs.declared.answer.Answer.{Answer}

-- the text is a certificate that is accepted, in which each condition has the first proof that the hints have for it, if that holds
pub record IsFound (D : Development) (hints : List Entry) (text : List ℕ) : Type 0 where
  pub proofs : List Entry
  pub line : text ≡ certificate_line D proofs
  pub accepted : IsProvenBy D text
  pub first : TakesFirst D hints proofs

-- the first proofs that the hints have prove all conditions, and their text may be a file
abbrev pub AreWhole : Development → List Entry → Type 0
AreWhole D hints = AreProved hints 0 (conditions D) × IsPrintable D (by_entries hints 0 (conditions D))

-- a fault is reported by a word with the number of the condition, and status 1
abbrev pub ToldUnfound : FindFault → List ℕ → ℕ → Type 0
ToldUnfound (NotFound k) text status = (text ≡ line_of (codes "not-found") (k ∷ [])) × (status ≡ 1)
ToldUnfound (Budget k) text status = (text ≡ line_of (codes "budget") (k ∷ [])) × (status ≡ 1)
ToldUnfound (Large k) text status = (text ≡ line_of (codes "large") (k ∷ [])) × (status ≡ 1)
ToldUnfound OutOfMemory text status = ⊥

-- a certificate is reported by its line and status 0
abbrev pub ToldFound : Development → Result Certificate FindFault → List ℕ → ℕ → Type 0
ToldFound D (Ok certificate) text status = (text ≡ certificate_line D (entries_in certificate)) × (status ≡ 0)
ToldFound D (Err fault) text status = ToldUnfound fault text status

-- The answer of the finder with these proofs for hints: a certificate and status 0; or, only if the hints do not prove all, a
-- line that names a condition
abbrev pub AnswersFound : Development → List Entry → List ℕ → ℕ → Type 0
AnswersFound D hints text status =
    (IsFound D hints text × (status ≡ 0))
    ⊎ ((fault : FindFault) × IsInRange (length (conditions D)) fault × (AreWhole D hints → ⊥) × ToldUnfound fault text status)

-- the file is no hints for the development, and its first refusal is reported
abbrev pub RefusesHints : Development → List ℕ → List ℕ → ℕ → Type 0
RefusesHints D file text status = (refusal : Refusal) × IsFirstRefusal (hints_reading D) file refusal × ToldFault (Refused refusal) text status

-- a file of hints is opened: it says these; or its refusal is reported
abbrev pub OpensHints : Development → List ℕ → Result Hints Answer → Type 0
OpensHints D file (Ok hints) = (hs : List Hint) × Says (hints_reading D) file hs × HasHints hs hints
OpensHints D file (Err answer) = RefusesHints D file answer.text.items answer.status

-- the answer to a file of hints for a development
abbrev pub AnswersHints : Development → List ℕ → List ℕ → ℕ → Type 0
AnswersHints D file text status =
    RefusesHints D file text status ⊎ ((hs : List Hint) × Says (hints_reading D) file hs × AnswersFound D (proofs_of hs) text status)

-- The answer to a development's file
abbrev pub AnswersProve : List ℕ → List ℕ → ℕ → Type 0
AnswersProve development text status =
    TellsRefusal development text status ⊎ ((D : Development) × Says file_reading development D × AnswersFound D [] text status)

-- The answer to a development's file and a file of hints: a refusal of the development decides, whatever the other file has
abbrev pub AnswersHinted : List ℕ → Option (List ℕ) → List ℕ → ℕ → Type 0
AnswersHinted development hints text status =
    TellsRefusal development text status
    ⊎ ((D : Development) × Says file_reading development D × OfFile hints (λ file. AnswersHints D file text status))
