use Rattle.lc_proof_state.proofs.Apart.{numbers-more}
use Rattle.lc_proof_state.proofs.situation.initial_numbers.Goals as goal

pub loop-column-preserved : goal.loop-column-preserved
loop-column-preserved c =
    numbers-more c.args.content c.loop-column.column c.loop-column.numbers.items _ _ c.loop-column.invariant c.numbers_of.ensures c.in_ok-push.ensures.items
