use Rattle.lc_model_claims.proofs.machines.invoking.Goals as goal

pub returns-clause-invoked : goal.returns-clause-invoked
returns-clause-invoked c = c.invoke.ensures.invoked

pub returns-clause-object : goal.returns-clause-object
returns-clause-object c = c.invoke.ensures.object
