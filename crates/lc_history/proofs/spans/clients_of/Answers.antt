use Rattle.std.proofs.Common.{◌<◌, length, arith, ◌∙◌}
use Rattle.std.proofs.lemmas.List.{length-set}
use Rattle.lc_history.specs.View.{event_of, events_of}
use Rattle.lc_history.proofs.Tables.{clients_noted, seen_same, element_at}
use Rattle.lc_history.proofs.Turns.{event_at}
use Rattle.lc_history.proofs.spans.clients_of.Goals as goal

pub index_mut-requires : goal.index_mut-requires
index_mut-requires c =
    let at = event_at c.args.events.now c.loop-place.place c.index-events-place.result (omega arith) c.index-events-place.is in
    let above = c.client_count.ensures c.loop-place.place (event_of c.index-events-place.result) at in
    omega (arith, above, c.client.ensures, c.loop-place.invariant.size, c.in_ok-clients.ensures.length)

pub loop-place-preserved : goal.loop-place-preserved
loop-place-preserved c =
    let at = event_at c.args.events.now c.loop-place.place c.index-events-place.result (omega arith) c.index-events-place.is in
    let d = c.client.result in
    let clients = c.loop-place.clients.items in
    let above = c.client_count.ensures c.loop-place.place (event_of c.index-events-place.result) at in
    let within : d < length clients = omega (arith, above, c.client.ensures, c.loop-place.invariant.size, c.in_ok-clients.ensures.length) in
    let known = element_at clients d c.index_mut.result.now within c.index_mut.ensures.value in
    let noted = c.in_ok-note.ensures in
    record {
      size = length-set clients d c.note.new.self ∙ c.loop-place.invariant.size;
      clients = clients_noted (events_of c.args.events.now) c.loop-place.place (event_of c.index-events-place.result) d c.begins.result clients c.index_mut.result.now c.note.new.self
          c.loop-place.invariant.clients at c.client.ensures c.begins.ensures known within noted.calls noted.returns;
      seen = seen_same (λ k. 0) clients d c.index_mut.result.now c.note.new.self c.loop-place.invariant.seen known within noted.entries;
    }
