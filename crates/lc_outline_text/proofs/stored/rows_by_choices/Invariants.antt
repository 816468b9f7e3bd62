use Rattle.std.proofs.Common.{◌≡◌, map, take}
use Rattle.lc_reading.specs.TableView.{listed}
use Rattle.lc_outline_text.specs.Rests.{lists_of_rests}
use Rattle.lc_outline_text.specs.StoredView.{IsSet, rows_view, by_choices}
use Rattle.lc_outline_text.proofs.stored.rows_by_choices.Given as goal

-- those of the operations so far
abbrev pub invariant-loop-those : goal.invariant-loop-those
invariant-loop-those l = record {
  set : IsSet l.set;
  rows : map rows_view l.rows.items ≡ map (by_choices (listed l.columns)) (lists_of_rests (take l.those-index l.choices));
}
