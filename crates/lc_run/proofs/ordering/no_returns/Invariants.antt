use Rattle.std.proofs.Common.{◌≡◌, false, replicate}
use Rattle.lc_run.proofs.ordering.no_returns.Given as goal

-- none for each client so far
abbrev pub invariant-loop : goal.invariant-loop
invariant-loop l = l.returns.items ≡ replicate l.counter false
