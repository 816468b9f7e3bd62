use Rattle.lc_ground_claims.proofs.places.explaining.Goals as goal

pub returns : goal.returns
returns c = c.explanation.ensures
