use Rattle.std.proofs.Common.{take}
use Rattle.lc_cond.specs.Crossings.{MakesStable}
use Rattle.lc_cond.proofs.stability.push_conjunct.Given as goal

-- the actions so far
abbrev pub invariant-loop-action : goal.invariant-loop-action
invariant-loop-action l = MakesStable l.point l.number l.place (take l.action l.crossings) l.fn.conditions.items l.conditions.items
