use Rattle.std.proofs.Common.{◌≡◌, ◌++◌, drop, map, string_bytes}
use Rattle.lc_sexp.specs.Trees.{row}
use Rattle.lc_seq.specs.SpecView.{operation_of}
use Rattle.lc_reading.specs.Words.{names_in}
use Rattle.lc_outline_print.specs.Specifications.{operation_tree}
use Rattle.lc_sexp.specs.Printed.{printed_others}
use Rattle.lc_outline_print.proofs.specification.write_operations.Given as goal

abbrev pub invariant-loop-operation : goal.invariant-loop-operation
invariant-loop-operation l =
    string_bytes l.out ++ printed_others (row (map (operation_tree (names_in l.columns)) (map operation_of (drop l.operation-index l.operations))))
    ≡ string_bytes l.fn.out ++ printed_others (row (map (operation_tree (names_in l.columns)) (map operation_of l.operations)))
