use Rattle.lc_touring_claims.proofs.telling.Goals as goal

pub returns-clause-before : goal.returns-clause-before
returns-clause-before c = c.told_run.ensures.before

pub returns-clause-end : goal.returns-clause-end
returns-clause-end c = c.told_run.ensures.end

pub returns-clause-client : goal.returns-clause-client
returns-clause-client c = c.told_run.ensures.client
