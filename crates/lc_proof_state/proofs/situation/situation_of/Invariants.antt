use Rattle.std.proofs.Common.{◌≡◌}
use Rattle.lc_term.specs.State.{column_count, state_of}
use Rattle.lc_term.specs.UpdateView.{writes_view}
use Rattle.lc_proof_state.specs.Situation.{IsOf}
use Rattle.lc_proof_state.proofs.situation.situation_of.Given as goal

abbrev pub invariant-loop-round : goal.invariant-loop-round
invariant-loop-round l = record {
  columns : column_count l.state ≡ l.columns;
  cells : IsOf l.content l.columns (state_of l.state) (writes_view l.cells.items);
}
