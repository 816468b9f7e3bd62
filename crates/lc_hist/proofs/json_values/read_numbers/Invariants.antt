use Rattle.std.proofs.Common.{◌≡◌, Some, List, ◌++◌, length}
use Rattle.serde_json.specs.Data.{Data}
use Rattle.lc_hist.specs.JsonItems.{values_at}
use Rattle.lc_hist.specs.JsonValues.{all_in, number_in}
use Rattle.lc_hist.proofs.json_values.read_numbers.Given as goal

abbrev pub invariant-values : goal.invariant-values
invariant-values l = (ds : List Data) × (all_in number_in ds ≡ Some l.numbers.items) × (ds ++ values_at l.values ≡ values_at l.initial.values)

abbrev pub decreases-values : goal.decreases-values
decreases-values l = length l.values
