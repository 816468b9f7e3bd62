use Rattle.lc_outline_claims.proofs.plans.reading_a_plan.Goals as goal

pub returns : goal.returns
returns c = c.plan_of.ensures
