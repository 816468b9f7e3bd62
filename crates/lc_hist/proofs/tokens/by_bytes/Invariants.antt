use Rattle.std.proofs.Common.{◌≡◌, bytes_eq, drop}
use Rattle.lc_hist.proofs.tokens.by_bytes.Given as goal

-- what is left decides the answer
abbrev pub invariant-loop-at : goal.invariant-loop-at
invariant-loop-at l = bytes_eq l.a l.b ≡ bytes_eq (drop l.at l.a) (drop l.at l.b)
