use Rattle.std.proofs.Common.{◌≡◌, ◌++◌, flat_map, take}
use Rattle.std.specs.Prelude.{codes}
use Rattle.lc_outline.specs.DevelopmentView.{development_view}
use Rattle.lc_ride.specs.RideView.{marks_of}
use Rattle.lc_run.specs.Ordering.{calls_in}
use Rattle.lc_trace.specs.Lines.{mark_text}
use Rattle.lc_trace.proofs.lines.push_more_marks.Given as goal

-- the marks so far
abbrev pub invariant-loop-mark : goal.invariant-loop-mark
invariant-loop-mark l =
    l.text.items ≡ l.fn.text.items ++ flat_map (λ m. codes "," ++ mark_text (development_view l.development) (calls_in l.calls) m) (marks_of (take l.mark-index l.marks))
