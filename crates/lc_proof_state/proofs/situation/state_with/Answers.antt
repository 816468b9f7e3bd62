use Rattle.lc_term.specs.State.{state_of}
use Rattle.lc_term.specs.UpdateView.{writes_view}
use Rattle.lc_proof_state.proofs.Apart.{written-is}
use Rattle.lc_proof_state.proofs.situation.state_with.Goals as goal

pub returns-clause-cells : goal.returns-clause-cells
returns-clause-cells c =
    written-is c.args.content c.args.columns (state_of c.in_ok-state.state) (state_of c.write_all.new.self) (writes_view c.args.cells.now) c.in_ok-state.ensures.cells c.requires.apart c.in_ok-write_all.ensures.ok
