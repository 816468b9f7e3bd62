use Rattle.std.proofs.Common.{◌∙◌}
use Rattle.lc_plan.specs.View.{calls_of}
use Rattle.lc_run.specs.Labels.{is_unfinished}
use Rattle.lc_run.specs.Locked.{client_in, labels_made}
use Rattle.lc_crew.specs.Playing.{event_of}
use Rattle.lc_crew.proofs.Unfinished.{none-fit, one-more}
use Rattle.lc_crew.proofs.member.make_calls.Goals as goal

pub loop-time-preserved : goal.loop-time-preserved
loop-time-preserved g c =
    let k = calls_of c.args.calls.now in
    let so = c.loop-time.invariant in
    let halt = c.in_ok-halt.field-0 in
    let made = c.in_ok-halt.ensures in
    let after = labels_made c.make_call.new.seat in (
      made.same ∙ so.0,
      one-more halt c.loop-time._time k.turns (event_of k) (client_in c.args.seat.now) (client_in c.loop-time.seat) (labels_made c.args.seat.now) (labels_made c.loop-time.seat) after c.in_default.not-Some so.0 so.1 made.made,
      none-fit halt (is_unfinished after) c.in_default.not-Some made.fit,
    )
