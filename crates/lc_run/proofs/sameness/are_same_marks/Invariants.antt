use Rattle.std.proofs.Common.{◌≡◌, ◌↔◌, drop}
use Rattle.lc_ride.specs.RideView.{marks_of}
use Rattle.lc_run.proofs.sameness.are_same_marks.Given as goal

-- the lists are the same exactly if what is left of them is
abbrev pub invariant-loop-mark : goal.invariant-loop-mark
invariant-loop-mark l = (marks_of l.fn.left ≡ marks_of l.fn.right) ↔ (marks_of (drop l.mark-index l.left) ≡ marks_of l.rest)
