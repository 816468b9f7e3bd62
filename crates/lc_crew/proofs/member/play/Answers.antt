use Rattle.std.proofs.Common.{None, Some, ◌∙◌}
use Rattle.lc_run.specs.Labels.{is_unfinished}
use Rattle.lc_run.specs.Locked.{client_in, labels_made}
use Rattle.lc_crew.proofs.Scripts.{all-played, gone-on, halted_step_played}
use Rattle.lc_crew.proofs.Unfinished.{none-fit}
use Rattle.lc_crew.proofs.member.play.Goals as goal

pub returns-in-Some-clause-played : goal.returns-in-Some-clause-played
returns-in-Some-clause-played g c =
    let so = c.loop-calls.invariant in
    let now = labels_made c.loop-calls.seat in
    let after = labels_made c.make_calls.new.seat in
    so.2 (Some c.in-Some.halt) after
    (halted_step_played c.deref-calls-items.result.now c.args.script.now.calls.items c.loop-calls.calls-index c.calls-item.result c.in-Some.halt c.in_ok-halt.field-0 (client_in c.args.seat.now) (client_in c.loop-calls.seat) now after
    c.deref-calls-items.ensures.value c.loop-calls-test.true c.calls-item.is c.in-Some.is so.0 c.in_ok-halt.ensures.made)

pub loop-calls-preserved : goal.loop-calls-preserved
loop-calls-preserved g c =
    let so = c.loop-calls.invariant in
    let now = labels_made c.loop-calls.seat in
    let next = labels_made c.make_calls.new.seat in
    let halt = c.in_ok-halt.field-0 in
    let made = c.in_ok-halt.ensures in (
      made.same ∙ so.0,
      none-fit halt (is_unfinished next) c.in_default.not-Some made.fit,
      λ end after rest.
          so.2 end after
          (gone-on c.deref-calls-items.result.now c.args.script.now.calls.items c.loop-calls.calls-index c.calls-item.result halt (client_in c.args.seat.now) (client_in c.loop-calls.seat) now next c.deref-calls-items.ensures.value
          c.loop-calls-test.true c.calls-item.is c.in_default.not-Some so.0 made.made end after rest),
    )

pub returns-clause-played : goal.returns-clause-played
returns-clause-played g c =
    let so = c.loop-calls.invariant in
    let now = labels_made c.loop-calls.seat in
    so.2 None now (all-played c.deref-calls-items.result.now c.args.script.now.calls.items c.loop-calls.calls-index (client_in c.args.seat.now) now c.deref-calls-items.ensures.value c.loop-calls-test.false)
