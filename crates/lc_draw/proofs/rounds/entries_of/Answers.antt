use Rattle.std.proofs.Common.{arith}
use Rattle.lc_history.specs.History.{is_of}
use Rattle.lc_history.specs.View.{entry_view}
use Rattle.lc_draw.specs.Counting.{turns_of}
use Rattle.lc_draw.proofs.Stretching.{counts-all}
use Rattle.lc_draw.proofs.Turning.{entries-up, few-entries}
use Rattle.lc_draw.proofs.rounds.entries_of.Goals as goal

pub next_turn-requires : goal.next_turn-requires
next_turn-requires c = few-entries entry_view c.args.order.now c.loop-done.done-index c.done-item.result.client c.loop-done.turns.entries c.loop-done-test.true (omega arith) c.loop-done.invariant

pub loop-done-preserved : goal.loop-done-preserved
loop-done-preserved c =
    entries-up entry_view c.args.order.now c.loop-done.done-index c.done-item.result c.loop-done.turns.entries c.next_turn.new.turns.entries c.loop-done-test.true c.done-item.is c.in_ok-next_turn.ensures.more c.loop-done.invariant

pub returns : goal.returns
returns c = counts-all entry_view is_of c.args.order.now c.loop-done.done-index (turns_of c.loop-done.turns.entries) (omega arith) c.loop-done.invariant
