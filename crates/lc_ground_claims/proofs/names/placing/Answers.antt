use Rattle.lc_ground_claims.proofs.names.placing.Goals as goal

pub returns : goal.returns
returns c = c.place_from.ensures
