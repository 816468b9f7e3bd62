use Rattle.std.proofs.Common.{◌≡◌, vec_len}
use Rattle.lc_draw.proofs.places.bars_of.Given as goal

-- a bar for each call so far
abbrev pub invariant-loop-call : goal.invariant-loop-call
invariant-loop-call l = vec_len l.bars ≡ l.call-index
