use Rattle.std.proofs.Common.{◌≡◌, map, take}
use Rattle.serde_json.specs.View.{view}
use Rattle.lc_seq.specs.SpecView.{operations_of}
use Rattle.lc_history.specs.View.{entries_view}
use Rattle.lc_hist.specs.JsonKept.{Each, IsKeptEntry}
use Rattle.lc_hist.specs.JsonWritten.{entry_data}
use Rattle.lc_hist.proofs.json_writing.order_value.Given as goal

abbrev pub invariant-loop-done : goal.invariant-loop-done
invariant-loop-done l = record {
  written : map view l.values.items ≡ map (entry_data (operations_of l.operations)) (take l.done-index (entries_view l.order));
  kept : Each IsKeptEntry (take l.done-index (entries_view l.order));
}
