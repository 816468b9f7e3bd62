use Rattle.lc_rider_claims.proofs.riders.finding_a_condition.Goals as goal

pub returns : goal.returns
returns c = c.condition.ensures
