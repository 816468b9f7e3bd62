use Rattle.std.proofs.Common.{◌≡◌}
use Rattle.lc_look.specs.Ranges.{from}
use Rattle.lc_look.proofs.range.numbers_between.Given as goal

abbrev pub invariant-loop-i : goal.invariant-loop-i
invariant-loop-i l = l.numbers.items ≡ from l.low l.i
