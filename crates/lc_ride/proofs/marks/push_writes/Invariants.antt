use Rattle.std.proofs.Common.{◌≡◌, drop, ◌++◌}
use Rattle.lc_term.specs.Updates.{cell_writes}
use Rattle.lc_term.specs.UpdateView.{writes_view}
use Rattle.lc_ride.proofs.Cells.{numbers_of}
use Rattle.lc_ride.proofs.marks.push_writes.Given as goal

-- the writes so far, with those that are left, are all
abbrev pub invariant-loop-i : goal.invariant-loop-i
invariant-loop-i l =
    writes_view l.writes.items ++ cell_writes (numbers_of (drop l.i l.columns)) l.index (drop l.i l.numbers)
    ≡ writes_view l.fn.writes.items ++ cell_writes (numbers_of l.columns) l.index l.numbers
