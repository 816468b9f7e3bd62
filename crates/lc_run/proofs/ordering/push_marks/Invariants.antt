use Rattle.std.proofs.Common.{◌≡◌, ◌++◌, map, take}
use Rattle.lc_ride.specs.RideView.{marks_of}
use Rattle.lc_sound.specs.Order.{marked}
use Rattle.lc_run.specs.Ordering.{calls_in, happenings_of}
use Rattle.lc_run.proofs.ordering.push_marks.Given as goal

-- the marks so far, after what happened before
abbrev pub invariant-loop-mark : goal.invariant-loop-mark
invariant-loop-mark l = happenings_of l.happenings.items ≡ happenings_of l.fn.happenings.items ++ map (marked (calls_in l.calls)) (marks_of (take l.mark-index l.marks))
