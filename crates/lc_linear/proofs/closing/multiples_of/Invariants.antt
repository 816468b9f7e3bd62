use Rattle.std.proofs.Common.{take}
use Rattle.lc_linear.specs.Closing.{combined, entries_in}
use Rattle.lc_linear.specs.Owed.{AreTogether}
use Rattle.lc_linear.proofs.closing.multiples_of.Given as goal

-- the sides so far are together the sum so far
abbrev pub invariant-loop-formula : goal.invariant-loop-formula
invariant-loop-formula l = AreTogether l.terms l.multiples.items (combined (entries_in l.terms (take l.formula-index l.entries)))
