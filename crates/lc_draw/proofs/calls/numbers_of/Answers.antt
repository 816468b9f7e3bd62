use Rattle.std.proofs.Common.{◌∙◌, [], arith}
use Rattle.lc_history.specs.View.{entry_view, entries_view}
use Rattle.lc_draw.specs.Counting.{is_between, numbers_for}
use Rattle.lc_draw.proofs.Turning.{entries-up, few-entries, numbers-done, numbers-more}
use Rattle.lc_draw.proofs.calls.numbers_of.Goals as goal

pub next_turn-requires : goal.next_turn-requires
next_turn-requires c =
    few-entries entry_view c.args.order.now c.loop-done.done-index c.done-item.result.client c.loop-done.seen.entries c.loop-done-test.true (omega arith) c.loop-done.invariant.0

pub loop-done-preserved : goal.loop-done-preserved
loop-done-preserved c =
    let done = c.done-item.result in
    let i = c.loop-done.done-index in
    let order = c.args.order.now in
    let ns = c.args.calls.now.numbers.entries in
    let test = is_between c.args.stretch.now.begun.entries c.args.stretch.now.returned.entries in (
      entries-up entry_view order i done c.loop-done.seen.entries c.next_turn.new.turns.entries c.loop-done-test.true c.done-item.is c.in_ok-turn.ensures.more c.loop-done.invariant.0,
      numbers-more entry_view test ns order i done c.loop-done.numbers.items c.push.new.self.items (numbers_for test ns [] (entries_view order)) c.in_ok-turn.turn c.number_held.result c.loop-done-test.true c.done-item.is
          (c.in_ok-turn.ensures.turn ∙ c.loop-done.invariant.0 done.client) c.number_held.ensures c.in_ok-push.ensures.items c.loop-done.invariant.1,
    )

pub returns : goal.returns
returns c =
    let order = c.args.order.now in
    let ns = c.args.calls.now.numbers.entries in
    let test = is_between c.args.stretch.now.begun.entries c.args.stretch.now.returned.entries in
    numbers-done entry_view test ns order c.loop-done.done-index c.loop-done.numbers.items (numbers_for test ns [] (entries_view order)) (omega arith) c.loop-done.invariant.1
