use Rattle.std.proofs.Common.{drop}
use Rattle.lc_term.specs.Lists.{Every}
use Rattle.lc_term.specs.UpdateView.{writes_view}
use Rattle.lc_proof_state.specs.Situation.{IsElsewhere}
use Rattle.lc_proof_state.proofs.situation.is_among.Given as goal

-- if it is elsewhere than those that are left, then than all
abbrev pub invariant-loop-other : goal.invariant-loop-other
invariant-loop-other l =
    Every (IsElsewhere l.cell.column.0 l.cell.index) (writes_view (drop l.other-index l.cells)) → Every (IsElsewhere l.cell.column.0 l.cell.index) (writes_view l.cells)
