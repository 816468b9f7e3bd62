use Rattle.lc_reading.proofs.Combined.{ok_arm, err_arm}
use Rattle.lc_reading.specs.TableView.{listed}
use Rattle.lc_cert.proofs.Behind.{named_read}
use Rattle.lc_cert.specs.EntryView.{entries_of}
use Rattle.lc_cert.proofs.reading.read_named.Goals as goal

pub returns-in_err-entries : goal.returns-in_err-entries
returns-in_err-entries c =
    err_arm _ (λ es. entries_of es.items) _ _ _ _
    (named_read (listed c.args.columns.now) c.args.name.now c.args.list c.in_ok-first.rest c.in_ok-first.first c.read_due-due.result c.read_entries-entries.result c.both.result
    c.in_ok-first.ensures c.read_due-due.ensures c.read_entries-entries.ensures c.both.ensures)
    c.in_err-entries.was c.from_residual-in_err-entries.ensures.1

pub returns : goal.returns
returns c =
    ok_arm _ _ _ _
    (named_read (listed c.args.columns.now) c.args.name.now c.args.list c.in_ok-first.rest c.in_ok-first.first c.read_due-due.result c.read_entries-entries.result c.both.result
    c.in_ok-first.ensures c.read_due-due.ensures c.read_entries-entries.ensures c.both.ensures)
    c.in_ok-entries.was
