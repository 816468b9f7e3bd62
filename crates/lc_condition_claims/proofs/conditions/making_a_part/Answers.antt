use Rattle.lc_condition_claims.proofs.conditions.making_a_part.Goals as goal

pub returns-clause-part : goal.returns-clause-part
returns-clause-part c = c.part_with.ensures.part

pub returns-clause-kept : goal.returns-clause-kept
returns-clause-kept c = c.part_with.ensures.kept
