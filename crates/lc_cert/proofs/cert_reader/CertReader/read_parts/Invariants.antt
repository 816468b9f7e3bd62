use Rattle.std.proofs.Common.{◌≡◌, ℕ, List}
use Rattle.lc_sexp.specs.Reading as R
use Rattle.lc_sexp.specs.declared.part.Part.{Part}
use Rattle.lc_reading.specs.TableView.{listed}
use Rattle.lc_cert.specs.Certificates.{Entry}
use Rattle.lc_cert.specs.Pieces.{IsForm}
use Rattle.lc_cert.proofs.cert_reader.CertReader.read_parts.Given as goal

abbrev pub decreases-parts : goal.decreases-parts
decreases-parts l = R.ready_count l.self.reader

-- what was read of the parts, with those that were taken meanwhile
abbrev pub invariant-parts : goal.invariant-parts
invariant-parts l = record {
  spent : R.is_spent l.self.reader ≡ R.is_spent l.fn.self.reader;
  read : (fed : List ℕ) → (parts : List Part) → (taken : List Entry) → IsForm (listed l.columns) l.name parts taken l.fn.self.form → R.IsAfterTaking fed parts l.fn.self.reader
      → (all : List Part) × IsForm (listed l.columns) l.name all taken l.self.form × R.IsAfterTaking fed all l.self.reader;
}
