-- What readers of certificates answer.
use Rattle.std.specs.Prelude.{ℕ, Option, Some, Result, Ok, Err}
use Rattle.lc_base.specs.declared.refusal.Fault.{Fault}
use Rattle.lc_base.specs.declared.refusal.Fault.TheVariants.{Refused, OutOfMemory}
use Rattle.lc_base.specs.declared.refusal.Refusal.TheVariants.{Text, CertText, CertShape}
use Rattle.lc_reading.specs.declared.flaw.ReadFault.{ReadFault}
use Rattle.lc_reading.specs.declared.flaw.ReadFault.TheVariants.{Flawed, OutOfMemory as NoMemory}
use Rattle.lc_cert.specs.declared.entry.Entry.{Entry}

-- the last number after what is read
abbrev pub last_told : Option ℕ → Result Entry ReadFault → Option ℕ
last_told last (Ok e) = Some e.number
last_told last (Err fault) = last

-- a fault of text is one of a certificate's text
abbrev pub text_told : Fault → Fault
text_told (Refused (Text offset)) = Refused (CertText offset)
text_told fault = fault

-- a flaw is reported by its least item
abbrev pub trees_told : ReadFault → Fault
trees_told (Flawed f) = Refused (CertShape f.least)
trees_told NoMemory = OutOfMemory
