use Rattle.std.proofs.Common.{arith}
use Rattle.lc_history.specs.History.{is_return}
use Rattle.lc_history.specs.View.{event_of}
use Rattle.lc_history.specs.WellFormed.{client_of}
use Rattle.lc_draw.specs.Counting.{turns_of}
use Rattle.lc_draw.proofs.Stretching.{count-fits, counts-all, counts-up}
use Rattle.lc_draw.proofs.stretches.calls_returned.Goals as goal

pub note_return-requires : goal.note_return-requires
note_return-requires c =
    let client = client_of (event_of c.event-item.result) in
    count-fits event_of (is_return client) c.args.events.now c.loop-event.event-index (turns_of c.loop-event.turns.entries client) c.loop-event-test.true (omega arith) (c.loop-event.invariant client)

pub loop-event-preserved : goal.loop-event-preserved
loop-event-preserved c =
    counts-up event_of is_return c.args.events.now c.loop-event.event-index c.event-item.result (turns_of c.loop-event.turns.entries) (turns_of c.note_return.new.turns.entries) c.loop-event-test.true c.event-item.is
    c.in_ok-note_return.ensures c.loop-event.invariant

pub returns : goal.returns
returns c = counts-all event_of is_return c.args.events.now c.loop-event.event-index (turns_of c.loop-event.turns.entries) (omega arith) c.loop-event.invariant
