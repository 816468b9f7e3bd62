use Rattle.std.proofs.Common.{arith, add-one}
use Rattle.lc_seq.specs.SpecView.{operations_of}
use Rattle.lc_hist.specs.JsonKept.{IsKeptEvent}
use Rattle.lc_hist.specs.JsonWritten.{event_data}
use Rattle.lc_history.specs.View.{event_of, events_of}
use Rattle.lc_hist.proofs.JsonLists.{each-next, written_next}
use Rattle.lc_history.proofs.Turns.{event_at}
use Rattle.lc_hist.proofs.json_writing.events_value.Goals as goal

pub loop-event-preserved : goal.loop-event-preserved
loop-event-preserved c =
    let i = c.loop-event.event-index in
    let events = events_of c.args.events.now in
    let event = event_of c.event-item.result in
    let at = event_at c.args.events.now i c.event-item.result (omega arith) c.event-item.is in
    record {
      written = rw (c.in_ok-push.ensures.items, add-one i) (written_next (event_data (operations_of c.args.operations.now)) events i event c.loop-event.values.items c.in_ok-event_value.field-0 c.loop-event.invariant.written at c.in_ok-event_value.ensures.value);
      kept = rw (add-one i) (each-next IsKeptEvent events i event c.loop-event.invariant.kept at c.in_ok-event_value.ensures.kept);
    }
