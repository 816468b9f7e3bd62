use Rattle.std.proofs.Common.{◌≡◌, length, drop, ◌++◌}
use Rattle.lc_term.specs.Updates.{cell_writes}
use Rattle.lc_term.specs.UpdateView.{writes_view}
use Rattle.lc_object.specs.View.{columns_of}
use Rattle.lc_machine.proofs.rows.row_writes.Given as goal

-- the writes so far, with those that are left, are all
abbrev pub invariant-loop-i : goal.invariant-loop-i
invariant-loop-i l = record {
  count : length l.writes.items ≡ l.i;
  same : writes_view l.writes.items ++ cell_writes (columns_of (drop l.i l.columns)) l.index (drop l.i l.numbers) ≡ cell_writes (columns_of l.columns) l.index l.numbers;
}
