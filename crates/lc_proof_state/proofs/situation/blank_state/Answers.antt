use Rattle.lc_proof_state.proofs.Apart.{all-blank}
use Rattle.lc_proof_state.proofs.situation.blank_state.Goals as goal

pub returns-clause-cells : goal.returns-clause-cells
returns-clause-cells c =
    all-blank c.args.content c.args.columns c.in_ok-numbers.numbers.items c.deref.result.now c.new.result c.deref.ensures.value c.in_ok-numbers.ensures c.new.ensures.cells
