use Rattle.std.proofs.Common.{◌≤◌}
use Rattle.lc_term.specs.declared.term.ColExpr.{size-ColExpr}
use Rattle.lc_term.proofs.term.+drop_term.Given as goal

-- what is left is no deeper
abbrev pub invariant-ColExpr::drop-loop-self : goal.invariant-ColExpr::drop-loop-self
invariant-ColExpr::drop-loop-self l = size-ColExpr l.self ≤ size-ColExpr l.fn.self
