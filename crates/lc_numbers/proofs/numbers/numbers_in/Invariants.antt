use Rattle.std.proofs.Common.{◌≡◌, Some, map}
use Rattle.lc_numbers.specs.Numbers.{all_wholes_in}
use Rattle.lc_numbers.proofs.numbers.numbers_in.Given as goal

abbrev pub invariant-loop-part : goal.invariant-loop-part
invariant-loop-part l = all_wholes_in (map (λ part. part.now) l.yielded) ≡ Some l.numbers.items
