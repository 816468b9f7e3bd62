use Rattle.std.proofs.Common.{◌≡◌, map, take}
use Rattle.lc_reading.specs.TableView.{listed}
use Rattle.lc_outline_text.specs.Rests.{rests_of}
use Rattle.lc_outline_text.specs.StoredView.{IsSet, rows_kept, acted_kept}
use Rattle.lc_outline_text.proofs.stored.action_rows.Given as goal

-- those of the actions so far
abbrev pub invariant-loop-action : goal.invariant-loop-action
invariant-loop-action l = record {
  set : IsSet l.set;
  rows : rows_kept l.rows.items ≡ map (acted_kept (listed l.columns)) (rests_of (take l.action-index l.actions));
}
