use Rattle.std.proofs.Common.{◌≡◌, List, Some, length}
use Rattle.serde_json.specs.Data.{Data}
use Rattle.lc_hist.specs.JsonValues.{all_in, number_in}
use Rattle.lc_hist.proofs.JsonTokens.{BeginsRow}
use Rattle.lc_hist.proofs.tokens.next_numbers.Given as goal

abbrev pub invariant-numbers : goal.invariant-numbers
invariant-numbers l = (ds : List Data) × (all_in number_in ds ≡ Some l.numbers.items) × BeginsRow 0 l.initial.reader ds l.reader

abbrev pub decreases-numbers : goal.decreases-numbers
decreases-numbers l = length l.reader
