-- Which refusal of a certificate is its first.
use Rattle.std.specs.Prelude.{◌≡◌, ℕ, ◌⊎◌, List, Result, Ok, Err}
use Rattle.lc_base.specs.declared.refusal.Fault.{Fault}
use Rattle.lc_base.specs.declared.refusal.Fault.TheVariants.{Refused, OutOfMemory}
use Rattle.lc_base.specs.declared.refusal.Refusal.{Refusal}
use Rattle.lc_base.specs.declared.refusal.Refusal.TheVariants.{CertText, CertShape}
use Rattle.lc_sexp.specs.Reads.{ReadsAs, IsFirstFault}
use Rattle.lc_sexp.specs.Trees.{Trees}
use Rattle.lc_reading.specs.Files.{Says}
use Rattle.lc_reading.specs.Readings.{flawed}
use Rattle.lc_reading.specs.declared.flaw.Flaw.{Flaw}
use Rattle.lc_outline.specs.Development.{Development}
use Rattle.lc_cert.specs.Certificates.{Entry}
use Rattle.lc_cert.specs.Readings.{certificate_reading}
use Rattle.lc_cert.specs.CertificateView.{entries_in}
use Rattle.lc_cert.specs.declared.certificate.Certificate.{Certificate}

-- the bytes are a certificate of this development, with these entries
abbrev pub Certifies : Development → List ℕ → List Entry → Type 0
Certifies D bytes es = Says (certificate_reading D) bytes es

-- its text is wrong first at an offset
abbrev pub IsTextRefusal : List ℕ → Refusal → Type 0
IsTextRefusal bytes refusal = (offset : ℕ) × (refusal ≡ CertText offset) × IsFirstFault bytes offset

-- its trees are wrong, at this item first, in whatever pass
abbrev pub IsTreeRefusal : Development → List ℕ → Refusal → Type 0
IsTreeRefusal D bytes refusal = (ts : Trees) × (f : Flaw) × ReadsAs bytes ts × (certificate_reading D ts ≡ flawed f) × (refusal ≡ CertShape f.least)

-- the first refusal of a certificate: its first text fault; else the least item that is wrong
abbrev pub IsFirstRefusal : Development → List ℕ → Refusal → Type 0
IsFirstRefusal D bytes refusal = IsTextRefusal bytes refusal ⊎ IsTreeRefusal D bytes refusal

-- the answer to the bytes of a certificate: its entries; else its first refusal, or out of memory
abbrev pub IsAnswerTo : Development → List ℕ → Result Certificate Fault → Type 0
IsAnswerTo D bytes (Ok certificate) = Certifies D bytes (entries_in certificate)
IsAnswerTo D bytes (Err (Refused refusal)) = IsFirstRefusal D bytes refusal
IsAnswerTo D bytes (Err OutOfMemory) = Unit {0}
