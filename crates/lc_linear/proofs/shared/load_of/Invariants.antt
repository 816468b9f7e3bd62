use Rattle.std.proofs.Common.{◌≡◌, take}
use Rattle.lc_linear.specs.Owed.{load}
use Rattle.lc_linear.proofs.shared.load_of.Given as goal

-- the load of the multiples so far
abbrev pub invariant-loop-term : goal.invariant-loop-term
invariant-loop-term l = l.sum ≡ load l.terms (take l.term-index l.multiples)
