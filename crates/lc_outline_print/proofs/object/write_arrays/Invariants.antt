use Rattle.std.proofs.Common.{◌≡◌, ◌++◌, drop, map, string_bytes}
use Rattle.lc_sexp.specs.Trees.{row}
use Rattle.lc_object.specs.View.{parts_of, array_of}
use Rattle.lc_outline_print.specs.Objects.{array_tree}
use Rattle.lc_sexp.specs.Printed.{printed_others}
use Rattle.lc_outline_print.proofs.object.write_arrays.Given as goal

abbrev pub invariant-loop-array : goal.invariant-loop-array
invariant-loop-array l =
    string_bytes l.out ++ printed_others (row (map (array_tree (parts_of l.object)) (map array_of (drop l.array-index l.arrays))))
    ≡ string_bytes l.fn.out ++ printed_others (row (map (array_tree (parts_of l.object)) (map array_of l.arrays)))
