use Rattle.lc_spec_claims.proofs.specifications.running.Goals as goal

pub returns-clause-computed : goal.returns-clause-computed
returns-clause-computed c = c.run.ensures.computed

pub returns-clause-columns : goal.returns-clause-columns
returns-clause-columns c = c.run.ensures.columns
