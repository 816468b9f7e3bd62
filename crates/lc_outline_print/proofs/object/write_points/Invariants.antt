use Rattle.std.proofs.Common.{◌≡◌, ◌++◌, drop, map, string_bytes}
use Rattle.lc_object.specs.View.{point_of}
use Rattle.lc_outline.specs.PartsView.{parts_view}
use Rattle.lc_outline_print.specs.Objects.{point_trees}
use Rattle.lc_sexp.specs.Printed.{printed_others}
use Rattle.lc_outline_print.proofs.object.write_points.Given as goal

abbrev pub invariant-loop-number : goal.invariant-loop-number
invariant-loop-number g l =
    string_bytes l.out ++ printed_others (point_trees (parts_view l.parts) (g.S.Spelling.spelled l.spelling) l.operation l.number (map point_of (drop l.number l.points)))
    ≡ string_bytes l.fn.out ++ printed_others (point_trees (parts_view l.parts) (g.S.Spelling.spelled l.spelling) l.operation 0 (map point_of l.points))
