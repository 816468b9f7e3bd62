use Rattle.lc_step_claims.proofs.steps.starting.Goals as goal

pub returns-clause-state : goal.returns-clause-state
returns-clause-state c = c.start.ensures.state

pub returns-clause-columns : goal.returns-clause-columns
returns-clause-columns c = c.start.ensures.columns
