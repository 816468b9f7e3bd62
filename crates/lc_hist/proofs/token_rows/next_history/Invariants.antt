use Rattle.std.proofs.Common.{List, length}
use Rattle.serde_json.specs.Data.{Data}
use Rattle.lc_hist.specs.JsonHistories.{AreEvents}
use Rattle.lc_hist.specs.JsonSeen.{all_of, open_of, number_of}
use Rattle.lc_history.specs.View.{events_of}
use Rattle.lc_hist.proofs.JsonEvents.{AreOpen}
use Rattle.lc_hist.proofs.JsonTokens.{BeginsRow}
use Rattle.lc_hist.proofs.token_rows.next_history.Given as goal

abbrev pub invariant-events : goal.invariant-events
invariant-events l =
    (ds : List Data) × AreEvents (all_of l.operations) ds (events_of l.events.items) × AreOpen (events_of l.events.items) (λ c. number_of (open_of l.calls c)) × BeginsRow 3 l.initial.reader ds l.reader

abbrev pub decreases-events : goal.decreases-events
decreases-events l = length l.reader
