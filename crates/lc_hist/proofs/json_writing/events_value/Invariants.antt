use Rattle.std.proofs.Common.{◌≡◌, map, take}
use Rattle.serde_json.specs.View.{view}
use Rattle.lc_seq.specs.SpecView.{operations_of}
use Rattle.lc_hist.specs.JsonKept.{Each, IsKeptEvent}
use Rattle.lc_hist.specs.JsonWritten.{event_data}
use Rattle.lc_history.specs.View.{events_of}
use Rattle.lc_hist.proofs.json_writing.events_value.Given as goal

abbrev pub invariant-loop-event : goal.invariant-loop-event
invariant-loop-event l = record {
  written : map view l.values.items ≡ map (event_data (operations_of l.operations)) (take l.event-index (events_of l.events));
  kept : Each IsKeptEvent (take l.event-index (events_of l.events));
}
