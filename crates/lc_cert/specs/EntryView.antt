-- What the entries of a certificate stand for.
use Rattle.std.specs.Prelude.{List, map}
use Rattle.lc_kernel.specs.View.{proof_of}
use Rattle.lc_cert.specs.Certificates as S
use Rattle.lc_cert.specs.declared.entry.Entry.{Entry}

abbrev pub entry_of : Entry → S.Entry
entry_of e = record { number = e.number; proof = proof_of e.proof }

abbrev pub entries_of : List Entry → List S.Entry
entries_of es = map entry_of es
