use Rattle.std.proofs.Common.{take}
use Rattle.lc_term.specs.State.{state_of}
use Rattle.lc_term.specs.UpdateView.{writes_view}
use Rattle.lc_acting.specs.Left.{LeaveSame}
use Rattle.lc_acting.proofs.comparing.differ_in.Given as goal

abbrev pub invariant-loop-write : goal.invariant-loop-write
invariant-loop-write l = LeaveSame (state_of l.state) (writes_view l.first) (writes_view l.second) (writes_view (take l.write-index l.first))
