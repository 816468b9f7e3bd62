use Rattle.lc_spec_claims.proofs.specifications.applying.Goals as goal

pub returns-clause-applied : goal.returns-clause-applied
returns-clause-applied c = c.apply.ensures.applied

pub returns-clause-state : goal.returns-clause-state
returns-clause-state c = c.apply.ensures.state
