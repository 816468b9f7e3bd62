use Rattle.lc_rider_claims.proofs.riders.leaving_a_branch.Goals as goal

pub returns : goal.returns
returns c = c.leaves.ensures
