use Rattle.std.proofs.Common.{map}
use Rattle.lc_hints.specs.HintView.{IsGiven}
use Rattle.lc_hints.specs.View.{hint_of}
use Rattle.lc_hints.proofs.given.gathered.Given as goal

-- what the hints so far give
abbrev pub invariant-loop-hint : goal.invariant-loop-hint
invariant-loop-hint l = IsGiven (map hint_of l.yielded) l.given
