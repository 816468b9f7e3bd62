use Rattle.std.proofs.Common.{◌≡◌, take}
use Rattle.lc_ride.specs.RideView.{marks_of}
use Rattle.lc_run.proofs.label.copied_marks.Given as goal

-- the marks so far
abbrev pub invariant-loop-mark : goal.invariant-loop-mark
invariant-loop-mark l = marks_of l.copies.items ≡ marks_of (take l.mark-index l.marks)
