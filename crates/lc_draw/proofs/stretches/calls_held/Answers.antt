use Rattle.std.proofs.Common.{◌≡◌, ◌∙◌, ◌+◌, ◌++◌, [], ap, arith, drop, sym, take}
use Rattle.lc_history.specs.History.{is_call}
use Rattle.lc_history.specs.View.{event_of, events_of}
use Rattle.lc_history.specs.WellFormed.{client_of}
use Rattle.lc_draw.specs.Counting.{is_between, turns_of}
use Rattle.lc_draw.specs.Stretches.{such_calls}
use Rattle.lc_draw.proofs.Stretching.{calls-done, calls-next, calls-same, count-fits, counts-up}
use Rattle.lc_draw.proofs.stretches.calls_held.Goals as goal
use Rattle.lc_draw.proofs.stretches.calls_held.Goals.{in-Some+in_ok-push, in_default}

pub next_call-requires : goal.next_call-requires
next_call-requires c =
    let client = client_of (event_of c.event-item.result) in
    count-fits event_of (is_call client) c.args.events.now c.loop-event.event-index (turns_of c.loop-event.turns.entries client) c.loop-event-test.true (omega arith) (c.loop-event.invariant.0 client)

pub loop-event-preserved : goal.loop-event-preserved
loop-event-preserved c =
    let events = c.args.events.now in
    let i = c.loop-event.event-index in
    let x = c.event-item.result in
    let g = turns_of c.loop-event.turns.entries in
    let test = is_between c.args.stretch.now.begun.entries c.args.stretch.now.returned.entries in
    let held = c.loop-event.held.items in
    let more = c.match-branch-2.held.items in
    let all = such_calls test [] (events_of events) in
    let behind : more ++ such_calls test (events_of (take (i + 1) events)) (events_of (drop (i + 1) events)) ≡ all = elim c.match-branch-2.branch [
      | in-Some+in_ok-push w ↦ calls-next event_of test events i x g _ _ w.holds.result held more all c.loop-event-test.true c.event-item.is (sym c.in_ok-client.ensures.call ∙ w.in-Some.is) c.loop-event.invariant.0 w.holds.ensures
          (ap (λ v. v.items) w.held-is ∙ w.in_ok-push.ensures.items) c.loop-event.invariant.1
      | in_default w ↦ calls-same event_of test events i x g held more all c.loop-event-test.true c.event-item.is (sym c.in_ok-client.ensures.call ∙ w.in_default.is) (ap (λ v. v.items) w.held-is) c.loop-event.invariant.1
    ] in
    (counts-up event_of is_call events i x g (turns_of c.next_call.new.turns.entries) c.loop-event-test.true c.event-item.is c.in_ok-client.ensures.more c.loop-event.invariant.0, behind)

pub returns : goal.returns
returns c =
    let test = is_between c.args.stretch.now.begun.entries c.args.stretch.now.returned.entries in
    calls-done event_of test c.args.events.now c.loop-event.event-index c.loop-event.held.items (such_calls test [] (events_of c.args.events.now)) (omega arith) c.loop-event.invariant.1
