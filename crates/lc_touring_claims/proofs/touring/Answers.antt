use Rattle.lc_touring_claims.proofs.touring.Goals as goal

pub returns : goal.returns
returns c = c.tour.ensures
