use Rattle.std.proofs.Common.{refl}
use Rattle.lc_sexp.specs.Shown.{owner_of}
use Rattle.lc_kernel.specs.View.{proof_of}
use Rattle.lc_reading.proofs.Combined.{two_ok, two_err}
use Rattle.lc_reading.specs.TableView.{listed}
use Rattle.lc_proof_text.specs.Proofs.{proof_reading}
use Rattle.lc_cert.specs.ColumnNames.{names_with}
use Rattle.lc_cert.specs.EntryView.{entry_of}
use Rattle.lc_cert.specs.Readings.{place_reading, entry, parts_reading}
use Rattle.lc_cert.proofs.reading.read_parts.Goals as goal

pub returns-in_err-number : goal.returns-in_err-number
returns-in_err-number c =
    let names = names_with (listed c.args.columns.now) in
    two_err (λ k. k) proof_of entry_of entry (place_reading c.args.last) (proof_reading names) (parts_reading names c.args.last (owner_of c.args.list)) c.args.list c.in_ok-first.rest c.in_ok-first.first c.in_ok-first.second _ _ _ _ _ _
    c.in_ok-first.ensures c.read_rising-number.ensures c.read_entry_proof-proof.ensures c.both.ensures c.ended.ensures (λ m ts. refl) c.in_err-number.was c.from_residual-in_err-number.ensures.1

pub returns : goal.returns
returns c =
    let names = names_with (listed c.args.columns.now) in
    two_ok (λ k. k) proof_of entry (place_reading c.args.last) (proof_reading names) (parts_reading names c.args.last (owner_of c.args.list)) c.args.list c.in_ok-first.rest c.in_ok-first.first c.in_ok-first.second _ _ _ _ _
    c.in_ok-first.ensures c.read_rising-number.ensures c.read_entry_proof-proof.ensures c.both.ensures c.ended.ensures (λ m ts. refl) c.in_ok-number.was
