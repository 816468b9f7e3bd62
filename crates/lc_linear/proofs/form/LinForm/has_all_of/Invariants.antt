use Rattle.std.proofs.Common.{map}
use Rattle.std.specs.Map.Iter.{deref_pair}
use Rattle.lc_linear.specs.Numbered.{AllHave}
use Rattle.lc_linear.specs.LinForm.{numbers}
use Rattle.lc_linear.proofs.form.LinForm.has_all_of.Given as goal

-- the coefficients so far are there
abbrev pub invariant-loop-atom : goal.invariant-loop-atom
invariant-loop-atom l = AllHave (numbers l.self) (map deref_pair l.yielded)
