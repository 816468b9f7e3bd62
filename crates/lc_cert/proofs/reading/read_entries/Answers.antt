use Rattle.std.proofs.Common.{ap}
use Rattle.lc_sexp.specs.Shown.{number_of}
use Rattle.lc_reading.proofs.SoFar.{each_end}
use Rattle.lc_reading.specs.TableView.{listed}
use Rattle.lc_cert.proofs.Behind.{entry_pushed}
use Rattle.lc_cert.specs.ColumnNames.{names_with}
use Rattle.lc_cert.specs.EntryView.{entry_of}
use Rattle.lc_cert.specs.Readings.{entries_reading}
use Rattle.lc_cert.proofs.reading.read_entries.Goals as goal

pub returns-in_default : goal.returns-in_default
returns-in_default c =
    each_end entry_of _ _ c.entries.entries (ap (entries_reading (names_with (listed c.args.columns.now)) c.entries.last (number_of c.entries.rest)) c.in_default.ensures.1) c.entries.invariant

pub entries-preserved : goal.entries-preserved
entries-preserved c =
    let (at, next) = c.in-Ok.ensures in
    entry_pushed (names_with (listed c.args.columns.now)) c.entries.last c.last_behind-last.result _ c.entries.rest c.next_part.new.list c.in-Ok.part c.entries.entries c.pushed-entries.result c.read_entry-entry.result
    at next c.read_entry-entry.ensures c.last_behind-last.ensures c.pushed-entries.ensures c.entries.invariant
