use Rattle.lc_running_claims.proofs.plans.running.Goals as goal

pub returns : goal.returns
returns g c = c.run.ensures
