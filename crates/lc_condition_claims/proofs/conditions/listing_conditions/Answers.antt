use Rattle.lc_condition_claims.proofs.conditions.listing_conditions.Goals as goal

pub returns-clause-are : goal.returns-clause-are
returns-clause-are c = c.conditions.ensures.are

pub returns-clause-list : goal.returns-clause-list
returns-clause-list c = c.conditions.ensures.list

pub returns-clause-kept : goal.returns-clause-kept
returns-clause-kept c = c.conditions.ensures.kept
