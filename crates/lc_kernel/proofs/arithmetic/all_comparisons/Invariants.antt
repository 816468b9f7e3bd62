use Rattle.std.proofs.Common.{◌≡◌, drop}
use Rattle.lc_linear.specs.Closing.{entries_in}
use Rattle.lc_kernel.specs.Table.{all_comparisons}
use Rattle.lc_kernel.proofs.arithmetic.all_comparisons.Given as goal

-- what is left are comparisons exactly if all are
abbrev pub invariant-loop-formula : goal.invariant-loop-formula
invariant-loop-formula l = all_comparisons (entries_in l.terms l.entries) ≡ all_comparisons (entries_in l.terms (drop l.formula-index l.entries))
