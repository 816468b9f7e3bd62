use Rattle.std.proofs.Common.{◌≡◌, None, replicate}
use Rattle.lc_run.proofs.ordering.no_calls.Given as goal

-- none for each client so far
abbrev pub invariant-loop : goal.invariant-loop
invariant-loop l = l.calls.items ≡ replicate l.counter None
