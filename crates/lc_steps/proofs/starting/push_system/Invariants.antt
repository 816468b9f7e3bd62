use Rattle.std.proofs.Common.{◌≡◌, ◌++◌, pos, replicate}
use Rattle.lc_steps.proofs.starting.push_system.Given as goal

-- a 0 and a 0 for each so far
abbrev pub invariant-loop : goal.invariant-loop
invariant-loop l = l.numbers.items ≡ l.fn.numbers.items ++ replicate l.counter (pos 0, pos 0)
