use Rattle.lc_finding_claims.proofs.carrying.carrying.Goals as goal

pub returns-clause-finds : goal.returns-clause-finds
returns-clause-finds c = c.carry.ensures.finds

pub returns-clause-gets : goal.returns-clause-gets
returns-clause-gets c = c.carry.ensures.gets
