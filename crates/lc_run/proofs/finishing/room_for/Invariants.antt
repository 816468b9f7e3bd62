use Rattle.std.proofs.Common.{◌≡◌, vec_len}
use Rattle.lc_run.proofs.finishing.room_for.Given as goal

-- a list for each client so far
abbrev pub invariant-loop : goal.invariant-loop
invariant-loop l = vec_len l.room ≡ l.counter
