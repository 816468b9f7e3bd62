use Rattle.std.proofs.Common.{◌≡◌, List, ◌++◌, length}
use Rattle.serde_json.specs.Data.{Data}
use Rattle.lc_hist.specs.JsonHistories.{AreEvents}
use Rattle.lc_hist.specs.JsonItems.{values_at}
use Rattle.lc_hist.specs.JsonSeen.{all_of, open_of, number_of}
use Rattle.lc_history.specs.View.{events_of}
use Rattle.lc_hist.proofs.JsonEvents.{AreOpen}
use Rattle.lc_hist.proofs.json_reading.read_events.Given as goal

abbrev pub invariant-values : goal.invariant-values
invariant-values l =
    (ds : List Data) × AreEvents (all_of l.operations) ds (events_of l.events.items) × AreOpen (events_of l.events.items) (λ c. number_of (open_of l.calls c))
    × (ds ++ values_at l.values ≡ values_at l.initial.values)

abbrev pub decreases-values : goal.decreases-values
decreases-values l = length l.values
