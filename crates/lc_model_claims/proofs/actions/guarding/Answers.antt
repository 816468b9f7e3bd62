use Rattle.lc_model_claims.proofs.actions.guarding.Goals as goal

pub returns : goal.returns
returns c = c.guard_for.ensures
