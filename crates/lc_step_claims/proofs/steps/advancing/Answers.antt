use Rattle.lc_step_claims.proofs.steps.advancing.Goals as goal

pub returns-clause-advanced : goal.returns-clause-advanced
returns-clause-advanced c = c.advance.ensures.advanced

pub returns-clause-placed : goal.returns-clause-placed
returns-clause-placed c = c.advance.ensures.placed

pub returns-clause-saved : goal.returns-clause-saved
returns-clause-saved c = c.advance.ensures.saved

pub returns-clause-columns : goal.returns-clause-columns
returns-clause-columns c = c.advance.ensures.columns
