use Rattle.lc_ground_claims.proofs.places.laying_out.Goals as goal

pub returns : goal.returns
returns c = c.lay_out.ensures
