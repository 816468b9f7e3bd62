use Rattle.std.proofs.Common.{◌≡◌, map, take}
use Rattle.lc_reading.specs.TableView.{listed}
use Rattle.lc_outline_text.specs.Rests.{rests_of}
use Rattle.lc_outline_text.specs.StoredView.{IsSet, rows_kept, marked_kept}
use Rattle.lc_outline_text.proofs.stored.branch_rows.Given as goal

-- those of the branches so far
abbrev pub invariant-loop-branch : goal.invariant-loop-branch
invariant-loop-branch l = record {
  set : IsSet l.set;
  rows : rows_kept l.rows.items ≡ map (marked_kept l.is_note (listed l.columns)) (rests_of (take l.branch-index l.branches));
}
