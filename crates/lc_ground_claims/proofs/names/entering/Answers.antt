use Rattle.lc_ground_claims.proofs.names.entering.Goals as goal

pub returns : goal.returns
returns c = c.enter_all.ensures
