use Rattle.std.specs.Int.{w64}
use Rattle.std.proofs.lemmas.Int.{to_z-of_z}
use Rattle.lc_logic_claims.proofs.forms.dividing.Goals as goal

pub returns : goal.returns
returns c = rw (to_z-of_z w64 c.args.divisor c.ranges.divisor) at c.divided.ensures.value
