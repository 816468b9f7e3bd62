use Rattle.lc_touring_claims.proofs.planning.Goals as goal

pub returns : goal.returns
returns c = c.scripts_of.ensures
