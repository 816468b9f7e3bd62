use Rattle.std.proofs.Common.{◌<◌, length, arith}
use Rattle.std.proofs.lemmas.List.{length-map}
use Rattle.std.proofs.lemmas.Option.{slice_get_within}
use Rattle.lc_history.specs.View.{event_of, events_of}
use Rattle.lc_history.proofs.Tables.{above_next}
use Rattle.lc_history.proofs.Turns.{event_at}
use Rattle.lc_history.proofs.spans.client_count.Goals as goal
use Rattle.lc_history.proofs.spans.client_count.Goals.{then-client-clients, else-client-clients}

pub loop-event-preserved : goal.loop-event-preserved
loop-event-preserved c =
    let history = events_of c.args.events.now in
    let event = event_of c.event-item.result in
    let at = event_at c.args.events.now c.loop-event.event-index c.event-item.result (omega arith) c.event-item.is in
    let before = c.loop-event.invariant.above in
    elim c.if-client-clients.branch [
      | then-client-clients w ↦ record {
        above = above_next history c.loop-event.event-index event c.loop-event.clients c.if-client-clients.clients before at (omega arith) (omega arith);
        fits = omega arith;
      }
      | else-client-clients w ↦ record {
        above = above_next history c.loop-event.event-index event c.loop-event.clients c.if-client-clients.clients before at (omega arith) (omega arith);
        fits = omega arith;
      }
    ]

pub returns : goal.returns
returns c i event at =
    let within : i < length (events_of c.args.events.now) = slice_get_within (events_of c.args.events.now) i event at in
    c.loop-event.invariant.above i event (omega (arith, length-map c.args.events.now event_of)) at
