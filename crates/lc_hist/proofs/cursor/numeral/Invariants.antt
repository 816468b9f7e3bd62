use Rattle.std.proofs.Common.{◌-◌, ◌<◌, ◌≤◌, length}
use Rattle.lc_hist.proofs.JsonLexed.{AreDigitsBetween}
use Rattle.lc_hist.proofs.cursor.numeral.Given as goal

abbrev pub invariant-digits : goal.invariant-digits
invariant-digits l = record { written : AreDigitsBetween l.text l.from l.number l.end; small : l.number < 1000000000000000000; order : l.from ≤ l.end }

abbrev pub decreases-digits : goal.decreases-digits
decreases-digits l = length l.text - l.end
