use Rattle.lc_model_claims.proofs.actions.storing.Goals as goal

pub returns : goal.returns
returns c = c.store.ensures
