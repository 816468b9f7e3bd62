use Rattle.lc_model_claims.proofs.actions.entering.Goals as goal

pub returns : goal.returns
returns c = c.enter.ensures
