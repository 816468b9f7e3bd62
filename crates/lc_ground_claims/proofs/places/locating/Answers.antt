use Rattle.lc_ground_claims.proofs.places.locating.Goals as goal

pub returns : goal.returns
returns c = c.located.ensures
