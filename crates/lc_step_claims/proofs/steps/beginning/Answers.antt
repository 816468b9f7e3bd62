use Rattle.lc_step_claims.proofs.steps.beginning.Goals as goal

pub returns-clause-begun : goal.returns-clause-begun
returns-clause-begun c = c.begin.ensures.begun

pub returns-clause-placed : goal.returns-clause-placed
returns-clause-placed c = c.begin.ensures.placed

pub returns-clause-saved : goal.returns-clause-saved
returns-clause-saved c = c.begin.ensures.saved

pub returns-clause-columns : goal.returns-clause-columns
returns-clause-columns c = c.begin.ensures.columns
