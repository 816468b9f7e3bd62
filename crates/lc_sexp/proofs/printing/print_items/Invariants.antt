use Rattle.std.proofs.Common.{◌≡◌, ◌++◌}
use Rattle.lc_sexp.specs.Printed.{printed_items}
use Rattle.lc_sexp.specs.Printing.{left_to_print, steps_left}
use Rattle.lc_sexp.specs.Shown.{rest_of}
use Rattle.lc_sexp.proofs.printing.print_items.Given as goal

abbrev pub invariant-loop-walk : goal.invariant-loop-walk
invariant-loop-walk l = l.out.items ++ left_to_print l.walk ≡ l.fn.out.items ++ printed_items (rest_of l.items)

abbrev pub decreases-loop-walk : goal.decreases-loop-walk
decreases-loop-walk l = steps_left l.walk
