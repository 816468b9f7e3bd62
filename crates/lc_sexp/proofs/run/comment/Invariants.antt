use Rattle.std.proofs.Common.{◌≡◌, true, take}
use Rattle.lc_sexp.proofs.Runs.{goes_on}
use Rattle.lc_sexp.proofs.run.comment.Given as goal

abbrev pub invariant-loop-at : goal.invariant-loop-at
invariant-loop-at l = goes_on (take l.at l.bytes) ≡ true
