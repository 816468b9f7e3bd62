use Rattle.std.proofs.Common.{take, vec_len, subst, arith}
use Rattle.std.proofs.lemmas.List.{take_all}
use Rattle.lc_history.specs.View.{event_of, events_of}
use Rattle.lc_history.specs.WellFormed.{client_of}
use Rattle.lc_draw.specs.Counting.{IsUpTo}
use Rattle.lc_draw.proofs.Turning.{events-more, few-calls}
use Rattle.lc_draw.proofs.calls.calls_of.Goals as goal

pub take-requires : goal.take-requires
take-requires c =
    let calls = c.loop-event.calls in
    few-calls event_of c.args.events.now c.loop-event.event-index (client_of (event_of c.event-item.result)) (vec_len calls.calls) calls.turns.entries calls.numbers.entries c.loop-event-test.true (omega arith) c.loop-event.invariant

pub loop-event-preserved : goal.loop-event-preserved
loop-event-preserved c =
    let new = c.take.new.self in
    events-more event_of c.args.events.now c.loop-event.event-index c.event-item.result (vec_len new.calls) new.turns.entries new.numbers.entries c.loop-event-test.true c.event-item.is
    (c.in_ok-take.ensures (events_of (take c.loop-event.event-index c.args.events.now)) c.loop-event.invariant)

pub returns : goal.returns
returns c =
    let calls = c.loop-event.calls in
    subst (λ es. IsUpTo (events_of es) (vec_len calls.calls) calls.turns.entries calls.numbers.entries) (take_all c.loop-event.event-index c.args.events.now (omega arith)) c.loop-event.invariant
