use Rattle.std.proofs.Common.{◌-◌}
use Rattle.lc_explain_cert.proofs.misses.seek_all.Given as goal

abbrev pub decreases-loop-number : goal.decreases-loop-number
decreases-loop-number l = l.count - l.number
