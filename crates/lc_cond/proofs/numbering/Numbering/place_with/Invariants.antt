use Rattle.std.proofs.Common.{◌≤◌, ◌<◌, ◌-◌, length}
use Rattle.lc_outline.specs.Development.{Development}
use Rattle.lc_cond.specs.Conditions.{conditions}
use Rattle.lc_cond.specs.Numbering.{count_before, IsNumbering}
use Rattle.lc_cond.proofs.numbering.Numbering.place_with.Given as goal

-- the part begins at the number or before, and what is at the other place after it
abbrev pub invariant-loop-low : goal.invariant-loop-low
invariant-loop-low l = record {
  order : l.low ≤ l.high;
  within : l.high ≤ length l.self.firsts.items;
  low : (D : Development) → IsNumbering D l.self → count_before D l.low ≤ l.number;
  high : (D : Development) → IsNumbering D l.self → l.number < length (conditions D) → l.high < length l.self.firsts.items → l.number < count_before D l.high;
}

abbrev pub decreases-loop-low : goal.decreases-loop-low
decreases-loop-low l = l.high - l.low
