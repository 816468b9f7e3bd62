use Rattle.std.proofs.Common.{◌≡◌, true, take}
use Rattle.lc_sexp.specs.Text.{are_letters}
use Rattle.lc_sexp.proofs.run.word_length.Given as goal

abbrev pub invariant-loop-at : goal.invariant-loop-at
invariant-loop-at l = are_letters (take l.at l.bytes) ≡ true
