use Rattle.std.specs.Int.{w64}
use Rattle.std.proofs.lemmas.Int.{to_z-of_z}
use Rattle.lc_term_claims.proofs.terms.writing.Goals as goal

pub returns : goal.returns
returns c = rw (to_z-of_z w64 c.args.index c.ranges.index, to_z-of_z w64 c.args.number c.ranges.number) at c.write.ensures.ok
