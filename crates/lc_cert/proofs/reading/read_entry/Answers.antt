use Rattle.std.proofs.Common.{codes}
use Rattle.lc_reading.specs.TableView.{listed}
use Rattle.lc_cert.specs.ColumnNames.{names_with}
use Rattle.lc_cert.specs.EntryView.{entry_of}
use Rattle.lc_cert.specs.Readings.{parts_reading}
use Rattle.lc_cert.proofs.reading.read_entry.Goals as goal
use Rattle.lc_reading.proofs.Parts.{behind_read, behind_wrong}

pub returns-in_err-list : goal.returns-in_err-list
returns-in_err-list c =
    behind_wrong entry_of (codes "proof") (parts_reading (names_with (listed c.args.columns.now)) c.args.last) c.args.part _ c.from_residual.result c.in_err-list.ensures c.from_residual.ensures.1

pub returns : goal.returns
returns c =
    behind_read entry_of (codes "proof") (parts_reading (names_with (listed c.args.columns.now)) c.args.last) c.args.part c.in_ok-list.list c.read_parts.result c.in_ok-list.ensures c.read_parts.ensures
