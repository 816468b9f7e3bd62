use Rattle.std.specs.Int.{w128}
use Rattle.std.proofs.lemmas.Int.{to_z-of_z}
use Rattle.lc_logic_claims.proofs.forms.adding.Goals as goal

pub returns : goal.returns
returns c = rw (to_z-of_z w128 c.args.multiplier c.ranges.multiplier) at c.add_scaled.ensures
