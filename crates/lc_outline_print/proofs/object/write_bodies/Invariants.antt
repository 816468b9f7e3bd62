use Rattle.std.proofs.Common.{◌≡◌, ◌++◌, drop, map, string_bytes}
use Rattle.lc_object.specs.View.{operation_of}
use Rattle.lc_outline.specs.PartsView.{parts_view}
use Rattle.lc_outline_print.specs.Objects.{body_trees}
use Rattle.lc_sexp.specs.Printed.{printed_others}
use Rattle.lc_outline_print.proofs.object.write_bodies.Given as goal

abbrev pub invariant-loop-number : goal.invariant-loop-number
invariant-loop-number l =
    string_bytes l.out ++ printed_others (body_trees (parts_view l.parts) l.number (map operation_of (drop l.number l.operations)))
    ≡ string_bytes l.fn.out ++ printed_others (body_trees (parts_view l.parts) 0 (map operation_of l.operations))
