use Rattle.lc_term.specs.State.{column_count}
use Rattle.lc_term.specs.UpdateView.{writes_view}
use Rattle.lc_proof_state.specs.Situation.{AreCells}
use Rattle.lc_proof_state.proofs.situation.cells_in.Given as goal

abbrev pub invariant-loop-numbered : goal.invariant-loop-numbered
invariant-loop-numbered l = AreCells (column_count l.state) (writes_view l.cells.items)
