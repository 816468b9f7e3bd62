use Rattle.lc_model_claims.proofs.actions.storing_together.Goals as goal

pub returns : goal.returns
returns c = c.store_more.ensures
