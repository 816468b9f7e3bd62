use Rattle.std.proofs.Common.{◌≡◌, ◌++◌, drop, string_bytes}
use Rattle.lc_sexp.specs.Printed.{printed_others}
use Rattle.lc_reading.specs.Words.{names_in}
use Rattle.lc_cert.specs.ColumnNames.{spelled_with}
use Rattle.lc_cert.specs.EntryView.{entries_of}
use Rattle.lc_cert.specs.Printed.{entry_trees}
use Rattle.lc_cert.proofs.printing.write_entries.Given as goal

abbrev pub invariant-loop-entry : goal.invariant-loop-entry
invariant-loop-entry l =
    let by = spelled_with (names_in l.columns) in
    string_bytes l.out ++ printed_others (entry_trees by (entries_of (drop l.entry-index l.entries))) ≡ string_bytes l.fn.out ++ printed_others (entry_trees by (entries_of l.entries))
