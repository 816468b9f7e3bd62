use Rattle.std.proofs.Common.{◌≡◌, ◌∙◌, ◌+◌, arith, false, true}
use Rattle.lc_history.specs.History.{is_return}
use Rattle.lc_history.specs.View.{event_of, events_of}
use Rattle.lc_draw.specs.Stretches.{is_open_at, up_to_last}
use Rattle.lc_draw.proofs.Stretching.{count-fits, count-up, last-next, le-no, le-yes, open-at}
use Rattle.lc_draw.proofs.rounds.open_until.Goals as goal
use Rattle.lc_draw.proofs.rounds.open_until.Goals.{else-returned-turn, then-returned-turn}

pub count_return-returned-requires : goal.count_return-returned-requires
count_return-returned-requires c = count-fits event_of (is_return c.args.client) c.args.events.now c.loop-place.place c.loop-place.returned c.loop-place-test.true (omega arith) c.loop-place.invariant.0

pub loop-place-preserved : goal.loop-place-preserved
loop-place-preserved c =
    let events = c.args.events.now in
    let i = c.loop-place.place in
    let client = c.args.client in
    let turn = c.args.turn in
    let returned = c.count_return-returned.result in
    let test = is_open_at (events_of events) client turn in
    let counted = count-up event_of (is_return client) events i c.index-events-place.result c.loop-place.returned returned c.loop-place-test.true c.index-events-place.is c.count_return-returned.ensures c.loop-place.invariant.0 in
    let here = open-at event_of events i client turn returned counted in
    let until = c.if-returned-turn.until in
    let all : until ≡ up_to_last test (i + 1) = elim c.if-returned-turn.branch [
      | then-returned-turn w ↦ last-next test i c.loop-place.until until true (le-yes returned turn (omega (arith, w.if-returned-turn)) ∙ here) c.loop-place.invariant.1 w.until-is
      | else-returned-turn w ↦ last-next test i c.loop-place.until until false (le-no returned turn (omega (arith, w.if-returned-turn)) ∙ here) c.loop-place.invariant.1 w.until-is
    ] in
    (counted, all)
