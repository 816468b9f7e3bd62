use Rattle.std.proofs.Common.{◌≡◌, map, take}
use Rattle.lc_reading.specs.TableView.{listed}
use Rattle.lc_outline_text.specs.Rests.{rests_of}
use Rattle.lc_outline_text.specs.StoredView.{IsSet, rows_view, by_branches}
use Rattle.lc_outline_text.proofs.stored.rows_by_branches.Given as goal

-- those of the operations so far
abbrev pub invariant-loop-operation : goal.invariant-loop-operation
invariant-loop-operation l = record {
  set : IsSet l.set;
  rows : map rows_view l.rows.items ≡ map (by_branches (listed l.columns)) (rests_of (take l.operation-index l.operations));
}
