use Rattle.std.proofs.Common.{ℕ, ◌<◌}
use Rattle.lc_pool.proofs.collecting.collect.Given as goal

-- each number so far holds
abbrev pub invariant-loop-number : goal.invariant-loop-number
invariant-loop-number g l = (k : ℕ) → k < l.number → g.W.Work.holds k
