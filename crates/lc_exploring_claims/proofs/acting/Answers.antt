use Rattle.lc_exploring_claims.proofs.acting.Goals as goal

pub returns : goal.returns
returns c = c.is_no_action.ensures
