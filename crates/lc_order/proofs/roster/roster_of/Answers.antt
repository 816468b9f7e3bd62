use Rattle.std.proofs.Common.{arith}
use Rattle.lc_history.specs.View.{event_of, events_of}
use Rattle.lc_order.proofs.Rosters.{roster_next}
use Rattle.lc_order.proofs.roster.roster_of.Goals as goal
use Rattle.lc_history.proofs.Turns.{event_at}

pub loop-place-preserved : goal.loop-place-preserved
loop-place-preserved c =
    let x = c.index-events-place.result in
    let at = event_at c.args.events.now c.loop-place.place x (omega arith) c.index-events-place.is in
    roster_next (events_of c.args.events.now) c.loop-place.place (event_of x) c.client.result c.begins.result c.loop-place.roster c.note.new.self at c.client.ensures c.begins.ensures c.loop-place.invariant
    c.in_ok-note.ensures.roster c.in_ok-note.ensures.calls c.in_ok-note.ensures.returns
