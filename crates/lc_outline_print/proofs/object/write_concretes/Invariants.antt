use Rattle.std.proofs.Common.{◌≡◌, ◌++◌, drop, string_bytes}
use Rattle.lc_object.specs.View.{parts_of, columns_of}
use Rattle.lc_outline_print.specs.Objects.{concrete_trees}
use Rattle.lc_sexp.specs.Printed.{printed_others}
use Rattle.lc_outline_print.proofs.object.write_concretes.Given as goal

abbrev pub invariant-loop-column : goal.invariant-loop-column
invariant-loop-column l =
    string_bytes l.out ++ printed_others (concrete_trees (parts_of l.object) (columns_of (drop l.column-index l.columns)))
    ≡ string_bytes l.fn.out ++ printed_others (concrete_trees (parts_of l.object) (columns_of l.columns))
