use Rattle.std.proofs.Common.{None, ◌∷◌}
use Rattle.lc_sexp.specs.Trees.{item_count_of_all}
use Rattle.lc_sexp.specs.Shown.{rest_of, number_of}
use Rattle.lc_reading.proofs.SoFar.{IsSoFar}
use Rattle.lc_reading.specs.TableView.{listed}
use Rattle.lc_cert.specs.ColumnNames.{names_with}
use Rattle.lc_cert.specs.EntryView.{entry_of}
use Rattle.lc_cert.specs.Readings.{entries_reading}
use Rattle.lc_cert.proofs.reading.read_entries.Given as goal

abbrev pub decreases-entries : goal.decreases-entries
decreases-entries l = item_count_of_all (rest_of l.rest)

-- the entries that are read, and those that are left
abbrev pub invariant-entries : goal.invariant-entries
invariant-entries l =
    let names = names_with (listed l.columns) in
    IsSoFar entry_of (λ e es. e ∷ es) (entries_reading names None (number_of l.fn.list) (rest_of l.fn.list)) (entries_reading names l.last (number_of l.rest) (rest_of l.rest)) l.entries
