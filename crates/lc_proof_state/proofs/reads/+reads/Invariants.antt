use Rattle.std.proofs.Common.{◌≤◌}
use Rattle.lc_term.specs.declared.term.ColExpr.{size-ColExpr}
use Rattle.lc_proof_state.proofs.reads.+reads.Given as goal

-- what is left is no deeper
abbrev pub invariant-push_stored_reads-stores : goal.invariant-push_stored_reads-stores
invariant-push_stored_reads-stores l = size-ColExpr l.rest ≤ size-ColExpr l.column
