use Rattle.lc_running_claims.proofs.plans.naming_a_halt.Goals as goal

pub returns : goal.returns
returns c = c.word.ensures
