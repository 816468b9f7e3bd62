use Rattle.std.proofs.Common.{codes}
use Rattle.lc_reading.specs.TableView.{listed}
use Rattle.lc_cert.specs.EntryView.{entries_of}
use Rattle.lc_cert.specs.Readings.{named_reading}
use Rattle.lc_cert.proofs.reading.read_form.Goals as goal
use Rattle.lc_reading.proofs.Parts.{behind_read, behind_wrong}

pub returns-in_err-list : goal.returns-in_err-list
returns-in_err-list c =
    behind_wrong (λ es. entries_of es.items) (codes "certificate") (named_reading (listed c.args.columns.now) c.args.name.now) c.args.part _ c.from_residual.result c.in_err-list.ensures c.from_residual.ensures.1

pub returns : goal.returns
returns c =
    behind_read (λ es. entries_of es.items) (codes "certificate") (named_reading (listed c.args.columns.now) c.args.name.now) c.args.part c.in_ok-list.list c.read_named.result c.in_ok-list.ensures c.read_named.ensures
