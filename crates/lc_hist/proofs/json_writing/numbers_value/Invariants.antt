use Rattle.std.proofs.Common.{◌≡◌, Some, map, take}
use Rattle.serde_json.specs.View.{view}
use Rattle.lc_hist.specs.JsonKept.{Each}
use Rattle.lc_hist.specs.JsonValues.{number_in}
use Rattle.lc_hist.specs.JsonWritten.{number_data}
use Rattle.lc_hist.proofs.json_writing.numbers_value.Given as goal

abbrev pub invariant-loop-number : goal.invariant-loop-number
invariant-loop-number l = record {
  written : map view l.values.items ≡ map number_data (take l.number-index l.numbers);
  kept : Each (λ z. number_in (number_data z) ≡ Some z) (take l.number-index l.numbers);
}
