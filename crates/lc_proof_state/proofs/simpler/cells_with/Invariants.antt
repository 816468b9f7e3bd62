use Rattle.lc_term.specs.UpdateView.{writes_view}
use Rattle.lc_proof_state.specs.Situation.{AreCells}
use Rattle.lc_proof_state.proofs.simpler.cells_with.Given as goal

abbrev pub invariant-loop-read : goal.invariant-loop-read
invariant-loop-read l = AreCells l.columns (writes_view l.cells.items)

abbrev pub invariant-loop-cell : goal.invariant-loop-cell
invariant-loop-cell l = AreCells l.columns (writes_view l.cells.items)
