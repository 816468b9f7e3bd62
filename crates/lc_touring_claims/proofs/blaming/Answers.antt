use Rattle.lc_touring_claims.proofs.blaming.Goals as goal

pub returns : goal.returns
returns c = c.failing_condition.ensures
