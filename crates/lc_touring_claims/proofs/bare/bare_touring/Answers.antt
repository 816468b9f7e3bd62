use Rattle.lc_touring_claims.proofs.bare.bare_touring.Goals as goal

pub returns : goal.returns
returns c = c.bare_tour.ensures
