use Rattle.std.proofs.Common.{◌≡◌, false}
use Rattle.lc_plan.specs.View.{calls_of}
use Rattle.lc_run.specs.Labels.{is_unfinished}
use Rattle.lc_run.specs.Locked.{client_in, labels_made}
use Rattle.lc_crew.specs.Playing.{HaveReturned, event_of}
use Rattle.lc_crew.proofs.member.make_calls.Given as goal

-- the calls so far have returned
abbrev pub invariant-loop-time : goal.invariant-loop-time
invariant-loop-time g l =
    let k = calls_of l.calls in
    (client_in l.seat ≡ client_in l.fn.seat) × HaveReturned l._time k.turns (event_of k) (client_in l.fn.seat) (labels_made l.fn.seat) (labels_made l.seat)
    × (is_unfinished (labels_made l.seat) ≡ false)
