use Rattle.std.proofs.Common.{◌≡◌, take}
use Rattle.lc_linear.specs.Closing.{combined, entries_in}
use Rattle.lc_linear.specs.Weight.{weight}
use Rattle.lc_linear.proofs.closing.sum_weight.Given as goal

-- the weight of the entries so far
abbrev pub invariant-loop-formula : goal.invariant-loop-formula
invariant-loop-formula l = l.sum ≡ weight (combined (entries_in l.terms (take l.formula-index l.entries)))
