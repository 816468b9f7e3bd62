use Rattle.lc_model_claims.proofs.machines.starting.Goals as goal

pub returns-clause-object : goal.returns-clause-object
returns-clause-object c = c.new.ensures.object

pub returns-clause-world : goal.returns-clause-world
returns-clause-world c = c.new.ensures.world
