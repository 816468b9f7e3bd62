use Rattle.lc_model_claims.proofs.machines.advancing.Goals as goal

pub returns-clause-advanced : goal.returns-clause-advanced
returns-clause-advanced c = c.advance.ensures.advanced

pub returns-clause-object : goal.returns-clause-object
returns-clause-object c = c.advance.ensures.object
