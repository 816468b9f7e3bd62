use Rattle.std.proofs.Common.{◌-◌, length}
use Rattle.lc_hist.specs.JsonCursor.{ArePlainBetween}
use Rattle.lc_hist.proofs.cursor.plain_end.Given as goal

abbrev pub invariant-plain : goal.invariant-plain
invariant-plain l = ArePlainBetween l.text l.from l.end

abbrev pub decreases-plain : goal.decreases-plain
decreases-plain l = length l.text - l.end
