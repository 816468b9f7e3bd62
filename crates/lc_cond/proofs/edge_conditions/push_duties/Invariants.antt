use Rattle.lc_cond.proofs.Scening.{DutiesBelow}
use Rattle.lc_cond.proofs.edge_conditions.push_duties.Given as goal

-- the duties so far
abbrev pub invariant-loop-duty : goal.invariant-loop-duty
invariant-loop-duty l = DutiesBelow l.scene l.number l.facts l.duty-items l.duty-index l.fn.conditions.items l.conditions.items
