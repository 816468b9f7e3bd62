use Rattle.lc_object_claims.proofs.riders.finding_a_variable.Goals as goal

pub returns : goal.returns
returns c = c.variable.ensures
