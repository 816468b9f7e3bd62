use Rattle.lc_model_claims.proofs.actions.leaving.Goals as goal

pub returns : goal.returns
returns c = c.leave.ensures
