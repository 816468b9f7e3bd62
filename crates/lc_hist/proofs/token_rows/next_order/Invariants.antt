use Rattle.std.proofs.Common.{List, length}
use Rattle.serde_json.specs.Data.{Data}
use Rattle.lc_hist.specs.JsonHistories.{AreEntries}
use Rattle.lc_history.specs.View.{entries_view}
use Rattle.lc_hist.specs.JsonSeen.{all_of}
use Rattle.lc_hist.proofs.JsonTokens.{BeginsRow}
use Rattle.lc_hist.proofs.token_rows.next_order.Given as goal

abbrev pub invariant-entries : goal.invariant-entries
invariant-entries l = (ds : List Data) × AreEntries (all_of l.operations) ds (entries_view l.order.items) × BeginsRow 3 l.initial.reader ds l.reader

abbrev pub decreases-entries : goal.decreases-entries
decreases-entries l = length l.reader
