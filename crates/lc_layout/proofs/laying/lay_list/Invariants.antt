use Rattle.std.proofs.Common.{◌≡◌, ◌++◌}
use Rattle.lc_sexp.specs.Shown.{rest_of}
use Rattle.lc_layout.specs.Layout.{laid_items, right_of, indent_of}
use Rattle.lc_layout.specs.Walking.{left_to_lay, steps_left}
use Rattle.lc_layout.proofs.laying.lay_list.Given as goal

abbrev pub invariant-loop-walk : goal.invariant-loop-walk
invariant-loop-walk l = l.text.items ++ left_to_lay l.walk ≡ l.fn.text.items ++ laid_items l.fn.stage (right_of 0 1) (indent_of 0 (rest_of l.items)) 0 (rest_of l.items)

abbrev pub decreases-loop-walk : goal.decreases-loop-walk
decreases-loop-walk l = steps_left l.walk
