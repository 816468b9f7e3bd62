use Rattle.std.proofs.Common.{map}
use Rattle.std.specs.Prelude.{negsuc}
use Rattle.std.specs.Map.Iter.{deref_pair}
use Rattle.lc_linear.proofs.Adding.{Summed}
use Rattle.lc_linear.specs.LinForm.{numbers}
use Rattle.lc_linear.proofs.form.LinForm.subtract.Given as goal

-- the entries so far have been subtracted
abbrev pub invariant-loop-atom : goal.invariant-loop-atom
invariant-loop-atom l = Summed (numbers l.initial.rest) (numbers l.rest) (negsuc 0) (map deref_pair l.yielded)
