use Rattle.lc_rider_claims.proofs.riders.storing_a_number.Goals as goal

pub returns-clause-are : goal.returns-clause-are
returns-clause-are c = c.store_in.ensures.are

pub returns-clause-stored : goal.returns-clause-stored
returns-clause-stored c = c.store_in.ensures.stored

pub returns-clause-unchanged : goal.returns-clause-unchanged
returns-clause-unchanged c = c.store_in.ensures.unchanged

pub returns-clause-kept : goal.returns-clause-kept
returns-clause-kept c = c.store_in.ensures.kept
