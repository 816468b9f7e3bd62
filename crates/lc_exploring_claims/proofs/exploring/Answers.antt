use Rattle.lc_exploring_claims.proofs.exploring.Goals as goal

pub returns : goal.returns
returns g c = c.explore.ensures
