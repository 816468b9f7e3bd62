use Rattle.std.proofs.Common.{map}
use Rattle.std.specs.Map.Iter.{deref_pair}
use Rattle.lc_linear.proofs.Adding.{Summed, ProductsFit}
use Rattle.lc_linear.specs.LinForm.{numbers}
use Rattle.lc_linear.proofs.form.LinForm.add_scaled.Given as goal

-- the entries so far have been added
abbrev pub invariant-loop-atom : goal.invariant-loop-atom
invariant-loop-atom l = record {
  summed : Summed (numbers l.initial.sum) (numbers l.sum) l.multiplier (map deref_pair l.yielded);
  products : ProductsFit l.multiplier (map deref_pair l.yielded);
}
