use Rattle.std.proofs.Common.{◌≡◌, ◌∙◌, ◌+◌, arith, false, sym, true}
use Rattle.lc_history.specs.History.{is_call}
use Rattle.lc_history.specs.View.{event_of, events_of}
use Rattle.lc_history.specs.WellFormed.{client_of}
use Rattle.lc_draw.specs.Counting.{has_turn, turns_of}
use Rattle.lc_draw.specs.Stretches.{begins_such_at, up_to_last}
use Rattle.lc_draw.proofs.Stretching.{begun-at, count-fits, counts-up, last-next}
use Rattle.lc_draw.proofs.rounds.begun_until.Goals as goal
use Rattle.lc_draw.proofs.rounds.begun_until.Goals.{else-begins, then-begins}

pub begins_one-requires : goal.begins_one-requires
begins_one-requires c =
    let client = client_of (event_of c.index-events-place.result) in
    count-fits event_of (is_call client) c.args.events.now c.loop-place.place (turns_of c.loop-place.turns.entries client) c.loop-place-test.true (omega arith) (c.loop-place.invariant.0 client)

pub loop-place-preserved : goal.loop-place-preserved
loop-place-preserved c =
    let events = c.args.events.now in
    let i = c.loop-place.place in
    let x = c.index-events-place.result in
    let g = turns_of c.loop-place.turns.entries in
    let passes = has_turn c.args.first.now.entries in
    let test = begins_such_at passes (events_of events) in
    let here = c.in_ok-begins.ensures.begins ∙ begun-at event_of passes g events i x c.loop-place-test.true c.index-events-place.is c.loop-place.invariant.0 in
    let until = c.if-begins.until in
    let all : until ≡ up_to_last test (i + 1) = elim c.if-begins.branch [
      | then-begins w ↦ last-next test i c.loop-place.until until true (sym w.if-begins.true ∙ here) c.loop-place.invariant.1 w.until-is
      | else-begins w ↦ last-next test i c.loop-place.until until false (sym w.if-begins.false ∙ here) c.loop-place.invariant.1 w.until-is
    ] in
    (counts-up event_of is_call events i x g (turns_of c.begins_one.new.turns.entries) c.loop-place-test.true c.index-events-place.is c.in_ok-begins.ensures.more c.loop-place.invariant.0, all)
