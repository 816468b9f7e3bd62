-- The answers to an old development's file, its certificate's, and a new development's file, without hints or with a file of such.
use Rattle.std.specs.Prelude.{◌≡◌, ℕ, ◌⊎◌, List, ◌++◌, length, Option, Some, None, option_map, Result, Ok, Err}
use Rattle.lc_base.specs.declared.refusal.Fault.TheVariants.{Refused}
use Rattle.lc_base.specs.declared.refusal.Refusal.{Refusal}
use Rattle.lc_carry.specs.Carried.{carried}
use Rattle.lc_cert.specs.CertificateView.{entries_in}
use Rattle.lc_cert.specs.Certificates.{Entry}
use Rattle.lc_cert.specs.Files.{Certifies}
use Rattle.lc_check.specs.VerdictView.{development_in}
use Rattle.lc_check.specs.Verdicts.{IsCertificateRefusal, IsProvenBy, ProvesAll}
use Rattle.lc_cond.specs.Conditions.{conditions}
use Rattle.lc_find.specs.Certified.{IsCertifiedBy}
use Rattle.lc_find.specs.Faults.{IsInRange}
use Rattle.lc_find.specs.declared.fault.FindFault.{FindFault}
use Rattle.lc_hints.specs.Hints.{Hint, proofs_of}
use Rattle.lc_hints.specs.Readings.{hints_reading}
use Rattle.lc_outline.specs.Development.{Development}
use Rattle.lc_outline_text.specs.Developments.{file_reading}
use Rattle.lc_reading.specs.Files.{Says}
use Rattle.lincheck.specs.Answers.{ToldFault}
use Rattle.lincheck.specs.Check.{TellsRefusal}
use Rattle.lincheck.specs.Prove.{IsFound, RefusesHints, ToldUnfound}
use Rattle.lincheck.specs.Reading.{OfFile}
use Rattle.lincheck.specs.declared.answer.Answer.{Answer}
use Rattle.lincheck.specs.declared.carry.Old.{Old}

-- ---- what is printed

-- The answer for a development if these proofs are tried first: a certificate and status 0; or a line that names a condition
abbrev pub AnswersSought : Development → List Entry → List ℕ → ℕ → Type 0
AnswersSought E given text status =
    (IsFound E given text × (status ≡ 0)) ⊎ ((fault : FindFault) × IsInRange (length (conditions E)) fault × ToldUnfound fault text status)

-- the same, when hints are tried after them: of no file; or of one, whose bytes may not be known
abbrev pub AnswersWith : Option (Option (List ℕ)) → Development → List Entry → List ℕ → ℕ → Type 0
AnswersWith None E given text status = AnswersSought E given text status
AnswersWith (Some hints) E given text status =
    OfFile hints (λ file. RefusesHints E file text status ⊎ ((hs : List Hint) × Says (hints_reading E) file hs × AnswersSought E (given ++ proofs_of hs) text status))

-- the bytes of the hints, if there is a path of such
abbrev pub hints_at : (List ℕ → Option (List ℕ)) → Option (List ℕ) → Option (Option (List ℕ))
hints_at bytes_at path = option_map bytes_at path

-- the file of the new development is refused; or proofs are carried to it, those of D
abbrev pub AnswersChanged : (Development → List Entry → List ℕ → ℕ → Type 0) → Development → List Entry → List ℕ → List ℕ → ℕ → Type 0
AnswersChanged Answers D es file text status = TellsRefusal file text status ⊎ ((E : Development) × Says file_reading file E × Answers E (carried D es E) text status)

-- the file is no certificate that proves D, and its first refusal is reported
abbrev pub RefusesCertificate : Development → List ℕ → List ℕ → ℕ → Type 0
RefusesCertificate D file text status = (refusal : Refusal) × IsCertificateRefusal D file refusal × ToldFault (Refused refusal) text status

-- the file of the certificate is refused; or it has these proofs, which are carried
abbrev pub AnswersProven : (Development → List Entry → List ℕ → ℕ → Type 0) → Development → List ℕ → Option (List ℕ) → List ℕ → ℕ → Type 0
AnswersProven Answers D file new text status =
    RefusesCertificate D file text status
    ⊎ ((es : List Entry) × Certifies D file es × ProvesAll es (conditions D) × OfFile new (λ other. AnswersChanged Answers D es other text status))

-- The answer to an old development's file, its certificate's and a new development's. The first that is refused decides
abbrev pub AnswersCarry : (Development → List Entry → List ℕ → ℕ → Type 0) → List ℕ → Option (List ℕ) → Option (List ℕ) → List ℕ → ℕ → Type 0
AnswersCarry Answers old certificate new text status =
    TellsRefusal old text status
    ⊎ ((D : Development) × Says file_reading old D × OfFile certificate (λ file. AnswersProven Answers D file new text status))

-- ---- files that are opened

-- the file of a certificate is opened: it is accepted, and has these proofs; or its refusal is reported
abbrev pub OpensCertificate : Development → List ℕ → Result Old Answer → Type 0
OpensCertificate D file (Ok old) = (development_in old.accepted ≡ D) × Certifies D file (entries_in old.certificate) × ProvesAll (entries_in old.certificate) (conditions D)
OpensCertificate D file (Err answer) = RefusesCertificate D file answer.text.items answer.status

-- the answer tells that the file of the development is refused
abbrev pub IsToldRefused : List ℕ → Result Old Answer → Type 0
IsToldRefused dev (Ok old) = ⊥
IsToldRefused dev (Err answer) = TellsRefusal dev answer.text.items answer.status

-- the files of a development and its certificate are opened
abbrev pub OpensOld : List ℕ → Option (List ℕ) → Result Old Answer → Type 0
OpensOld dev certificate opened = IsToldRefused dev opened ⊎ ((D : Development) × Says file_reading dev D × OfFile certificate (λ file. OpensCertificate D file opened))

-- the certificate is that of the development that is accepted
abbrev pub IsCertified : Old → Type 0
IsCertified old = IsCertifiedBy (development_in old.accepted) (entries_in old.certificate)

-- the new development's file cannot be opened; or it is read, and the file of the hints cannot
abbrev pub IsUnreadNew : (List ℕ → Type 0) → (List ℕ → Option (List ℕ)) → List ℕ → Option (List ℕ) → Type 0
IsUnreadNew CannotOpen bytes_at new None = CannotOpen new
IsUnreadNew CannotOpen bytes_at new (Some hints) =
    CannotOpen new ⊎ ((file : List ℕ) × (E : Development) × (bytes_at new ≡ Some file) × Says file_reading file E × CannotOpen hints)

-- a file of an old development, of its certificate if that one is read, or one after them if it is accepted, cannot be opened
abbrev pub IsUnreadCarry : (List ℕ → Type 0) → (List ℕ → Option (List ℕ)) → List ℕ → List ℕ → List ℕ → Option (List ℕ) → Type 0
IsUnreadCarry CannotOpen bytes_at old certificate new hints =
    CannotOpen old
    ⊎ ((file : List ℕ) × (D : Development) × (bytes_at old ≡ Some file) × Says file_reading file D
    × (CannotOpen certificate
    ⊎ ((proofs : List ℕ) × (bytes_at certificate ≡ Some proofs) × IsProvenBy D proofs × IsUnreadNew CannotOpen bytes_at new hints)))
