use Rattle.std.proofs.Common.{take, option_map}
use Rattle.lc_term.specs.UpdateView.{write_view, writes_view}
use Rattle.lc_acting.specs.Left.{IsLeft}
use Rattle.lc_acting.proofs.comparing.last_in.Given as goal

abbrev pub invariant-loop-write : goal.invariant-loop-write
invariant-loop-write l = IsLeft (writes_view (take l.write-index l.writes)) l.at.column.0 l.at.index (option_map write_view l.last)
