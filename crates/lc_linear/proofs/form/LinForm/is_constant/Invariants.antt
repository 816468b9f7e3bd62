use Rattle.std.proofs.Common.{map}
use Rattle.std.specs.Map.Iter.{deref_pair}
use Rattle.lc_linear.proofs.Distinct.{Vanishes}
use Rattle.lc_linear.proofs.form.LinForm.is_constant.Given as goal

-- the coefficients so far are 0
abbrev pub invariant-loop-coefficient : goal.invariant-loop-coefficient
invariant-loop-coefficient l = Vanishes (map deref_pair l.yielded)
