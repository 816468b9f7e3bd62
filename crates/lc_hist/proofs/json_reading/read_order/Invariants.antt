use Rattle.std.proofs.Common.{◌≡◌, List, ◌++◌, length}
use Rattle.serde_json.specs.Data.{Data}
use Rattle.lc_hist.specs.JsonHistories.{AreEntries}
use Rattle.lc_history.specs.View.{entries_view}
use Rattle.lc_hist.specs.JsonItems.{values_at}
use Rattle.lc_hist.specs.JsonSeen.{all_of}
use Rattle.lc_hist.proofs.json_reading.read_order.Given as goal

abbrev pub invariant-values : goal.invariant-values
invariant-values l =
    (ds : List Data) × AreEntries (all_of l.operations) ds (entries_view l.order.items) × (ds ++ values_at l.values ≡ values_at l.initial.values)

abbrev pub decreases-values : goal.decreases-values
decreases-values l = length l.values
