use Rattle.std.proofs.Common.{◌≡◌, ◌++◌, drop}
use Rattle.lc_explain.specs.Located.{blanks}
use Rattle.lc_explain.proofs.locating.blanks.Given as goal

abbrev pub invariant-loop-digit : goal.invariant-loop-digit
invariant-loop-digit l = l.text.items ++ blanks (drop l._digit-index l.digits) ≡ blanks l.digits
