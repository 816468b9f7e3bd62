use Rattle.std.specs.Int.{w64}
use Rattle.std.proofs.lemmas.Int.{to_z-of_z}
use Rattle.lc_logic_claims.proofs.axioms.taking_a_line.Goals as goal

pub returns : goal.returns
returns c = rw (to_z-of_z w64 c.args.slope c.ranges.slope, to_z-of_z w64 c.args.start c.ranges.start) at c.affine_axiom.ensures.id
