use Rattle.std.proofs.Common.{◌≡◌, ◌++◌, drop, map, string_bytes}
use Rattle.lc_sexp.specs.Trees.{row}
use Rattle.lc_object.specs.View.{parts_of}
use Rattle.lc_rider.specs.RiderView.{rider_of}
use Rattle.lc_outline_print.specs.Beside.{rider_tree}
use Rattle.lc_sexp.specs.Printed.{printed_others}
use Rattle.lc_outline_print.proofs.beside.write_riders.Given as goal

abbrev pub invariant-loop-rider : goal.invariant-loop-rider
invariant-loop-rider g l =
    string_bytes l.out ++ printed_others (row (map (rider_tree (parts_of l.object) (g.S.Spelling.spelled l.spelling)) (map rider_of (drop l.rider-index l.riders))))
    ≡ string_bytes l.fn.out ++ printed_others (row (map (rider_tree (parts_of l.object) (g.S.Spelling.spelled l.spelling)) (map rider_of l.riders)))
