-- The answers when a text of an object of the library is asked for.
use Rattle.std.specs.Prelude.{◌≡◌, ℕ, ◌⊎◌, List, Err}
use Rattle.lc_find.specs.declared.fault.FindFault.{FindFault}
use Rattle.lc_hints.specs.Hints.{Hint}
use Rattle.lc_lib.specs.Certified.{IsCertificate, IsCertificateAnswer}
use Rattle.lc_lib_texts.specs.Texts.{development_bytes, hint_bytes}
use Rattle.lc_lib_texts.specs.declared.library.Lib.{Lib}
use Rattle.lc_outline.specs.Development as S
use Rattle.lincheck.specs.Prove.{ToldUnfound}
use Rattle.lc_words.specs.declared.request.LibraryText.{LibraryText}
use Rattle.lc_words.specs.declared.request.LibraryText.TheVariants.{Development, Certificate, Hints}

-- the certificate that the object's hints make, which is accepted, and status 0; or, if they make none, a line that names a condition
abbrev pub AnswersCertificateOf : Lib → List ℕ → ℕ → Type 0
AnswersCertificateOf lib text status =
    ((D : S.Development) × (hints : List Hint) × IsCertificate lib text D hints × (status ≡ 0))
    ⊎ ((fault : FindFault) × IsCertificateAnswer lib (Err fault) × ToldUnfound fault text status)

-- The answer: the text of the development, or of the hints, with status 0; or that of the certificate
abbrev pub AnswersLibrary : Lib → LibraryText → List ℕ → ℕ → Type 0
AnswersLibrary lib Development text status = (text ≡ development_bytes lib) × (status ≡ 0)
AnswersLibrary lib Certificate text status = AnswersCertificateOf lib text status
AnswersLibrary lib Hints text status = (text ≡ hint_bytes lib) × (status ≡ 0)
