use Rattle.lc_term.specs.UpdateView.{writes_view}
use Rattle.lc_proof_state.specs.Situation.{AreCells}
use Rattle.lc_proof_state.proofs.simpler.Lowering.of_cells.Given as goal

abbrev pub invariant-loop-cell : goal.invariant-loop-cell
invariant-loop-cell l = AreCells l.columns (writes_view l.lowered.items)
