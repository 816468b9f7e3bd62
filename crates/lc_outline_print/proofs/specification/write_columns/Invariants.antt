use Rattle.std.proofs.Common.{◌≡◌, ◌++◌, drop, map, string_bytes}
use Rattle.lc_sexp.specs.Trees.{row}
use Rattle.lc_seq.specs.SpecView.{column_of}
use Rattle.lc_outline_print.specs.Specifications.{declared_tree}
use Rattle.lc_sexp.specs.Printed.{printed_others}
use Rattle.lc_outline_print.proofs.specification.write_columns.Given as goal

abbrev pub invariant-loop-column : goal.invariant-loop-column
invariant-loop-column l =
    string_bytes l.out ++ printed_others (row (map declared_tree (map column_of (drop l.column-index l.columns))))
    ≡ string_bytes l.fn.out ++ printed_others (row (map declared_tree (map column_of l.columns)))
