use Rattle.lc_condition_claims.proofs.conditions.listing_a_part.Goals as goal

pub returns-clause-next : goal.returns-clause-next
returns-clause-next c = c.next_part.ensures.next

pub returns-clause-unchanged : goal.returns-clause-unchanged
returns-clause-unchanged c = c.next_part.ensures.unchanged

pub returns-clause-kept : goal.returns-clause-kept
returns-clause-kept c = c.next_part.ensures.kept
