use Rattle.lc_cond.proofs.Crossed.{StableBelow}
use Rattle.lc_cond.proofs.stability.push_conjuncts.Given as goal

-- the conjuncts so far
abbrev pub invariant-loop-place : goal.invariant-loop-place
invariant-loop-place l = StableBelow l.point l.first l.count l.place l.crossings l.fn.conditions.items l.conditions.items
