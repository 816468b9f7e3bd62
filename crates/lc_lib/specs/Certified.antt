-- What is returned when a certificate of an object of the library is asked for.
use Rattle.std.specs.Prelude.{◌≡◌, ℕ, ◌⊎◌, List, Vec, Result, Ok, Err}
use Rattle.std.specs.declared.alloc.Global.{Global}
use Rattle.lc_base.specs.declared.refusal.Refusal.{Refusal}
use Rattle.lc_reading.specs.Files.{Says, IsFirstRefusal}
use Rattle.lc_outline.specs.Development.{Development}
use Rattle.lc_outline.specs.DevelopmentView.{development_view}
use Rattle.lc_outline.specs.declared.development.Development.{Development as Value}
use Rattle.lc_outline_text.specs.Developments.{file_reading}
use Rattle.lc_cert.specs.Certificates.{Entry}
use Rattle.lc_cert.specs.Printed.{certificate_line}
use Rattle.lc_cond.specs.Conditions.{conditions}
use Rattle.lc_check.specs.Verdicts.{AreProved, IsAccepted, IsProvenBy}
use Rattle.lc_find.specs.Found.{IsFirstUnhinted, IsNoCertificate}
use Rattle.lc_find.specs.Hinted.{by_entries}
use Rattle.lc_find.specs.declared.fault.FindFault.{FindFault}
use Rattle.lc_find.specs.declared.fault.FindFault.TheVariants.{NotFound, Budget, Large, OutOfMemory}
use Rattle.lc_hints.specs.Hints.{Hint, proofs_of}
use Rattle.lc_hints.specs.HintView.{HasHints}
use Rattle.lc_hints.specs.Readings.{hints_reading}
use Rattle.lc_hints.specs.declared.hints.Hints.{Hints}
use Rattle.lc_lib_texts.specs.Texts.{development_bytes, hint_bytes}
use Rattle.lc_lib_texts.specs.declared.library.Lib.{Lib}

-- ---- what is promised

-- the texts of the object are this development and these hints for it
pub record AreRead (lib : Lib) (D : Development) (hs : List Hint) : Type 0 where
  pub development : Says file_reading (development_bytes lib) D
  pub hints : Says (hints_reading D) (hint_bytes lib) hs

-- a text of the object is none: the development, or the hints for it
abbrev pub AreUnread : Lib → Type 0
AreUnread lib =
    ((refusal : Refusal) × IsFirstRefusal file_reading (development_bytes lib) refusal)
    ⊎ ((D : Development) × (refusal : Refusal) × Says file_reading (development_bytes lib) D × IsFirstRefusal (hints_reading D) (hint_bytes lib) refusal)

-- condition k is the first that these proofs do not prove; or they prove all, and their text is no certificate
abbrev pub IsUncertified : Development → List Entry → ℕ → Type 0
IsUncertified D proofs k =
    IsFirstUnhinted D proofs k ⊎ (AreProved proofs 0 (conditions D) × IsNoCertificate D (by_entries proofs 0 (conditions D)))

-- the text is the certificate of the first proofs that the hints have for each condition, and is accepted
pub record IsCertificate (lib : Lib) (text : List ℕ) (D : Development) (hs : List Hint) : Type 0 where
  pub read : AreRead lib D hs
  pub line : text ≡ certificate_line D (by_entries (proofs_of hs) 0 (conditions D))
  pub accepted : IsAccepted (development_bytes lib) text D

-- The answer: a certificate of the object's development by its hints; or why there is none
abbrev pub IsCertificateAnswer : Lib → Result (Vec ℕ Global) FindFault → Type 0
IsCertificateAnswer lib (Ok text) = (D : Development) × (hs : List Hint) × IsCertificate lib text.items D hs
IsCertificateAnswer lib (Err (NotFound k)) = (k ≡ 0) × AreUnread lib
IsCertificateAnswer lib (Err (Budget k)) = (D : Development) × (hs : List Hint) × AreRead lib D hs × IsUncertified D (proofs_of hs) k
IsCertificateAnswer lib (Err (Large k)) = ⊥
IsCertificateAnswer lib (Err OutOfMemory) = Unit {0}

-- ---- on the way

-- the development of the object is read; or its text is none
abbrev pub IsReadDevelopment : Lib → Result Value FindFault → Type 0
IsReadDevelopment lib (Ok value) = Says file_reading (development_bytes lib) (development_view value)
IsReadDevelopment lib (Err (NotFound k)) = (k ≡ 0) × ((refusal : Refusal) × IsFirstRefusal file_reading (development_bytes lib) refusal)
IsReadDevelopment lib (Err (Budget k)) = ⊥
IsReadDevelopment lib (Err (Large k)) = ⊥
IsReadDevelopment lib (Err OutOfMemory) = Unit {0}

-- the hints of the object are read, for this development; or their text is none
abbrev pub AreReadHints : Lib → Development → Result Hints FindFault → Type 0
AreReadHints lib D (Ok value) = (hs : List Hint) × Says (hints_reading D) (hint_bytes lib) hs × HasHints hs value
AreReadHints lib D (Err (NotFound k)) = (k ≡ 0) × ((refusal : Refusal) × IsFirstRefusal (hints_reading D) (hint_bytes lib) refusal)
AreReadHints lib D (Err (Budget k)) = ⊥
AreReadHints lib D (Err (Large k)) = ⊥
AreReadHints lib D (Err OutOfMemory) = Unit {0}

-- the text of the certificate of these proofs; or why they make none
abbrev pub IsByProofs : Development → List Entry → Result (Vec ℕ Global) FindFault → Type 0
IsByProofs D proofs (Ok text) = (text.items ≡ certificate_line D (by_entries proofs 0 (conditions D))) × IsProvenBy D text.items
IsByProofs D proofs (Err (NotFound k)) = ⊥
IsByProofs D proofs (Err (Budget k)) = IsUncertified D proofs k
IsByProofs D proofs (Err (Large k)) = ⊥
IsByProofs D proofs (Err OutOfMemory) = Unit {0}
