use Rattle.std.proofs.Common.{take}
use Rattle.lc_cond.proofs.Made.{MadeBelow}
use Rattle.lc_cond.proofs.making.push_each.Given as goal

-- the goals so far
abbrev pub invariant-loop-number : goal.invariant-loop-number
invariant-loop-number l = MadeBelow l.head l.hypotheses (take l.number l.goals) l.fn.conditions.items l.conditions.items
