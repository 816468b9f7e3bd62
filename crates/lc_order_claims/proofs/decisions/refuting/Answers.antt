use Rattle.lc_order_claims.proofs.decisions.refuting.Goals as goal

pub returns-clause-front : goal.returns-clause-front
returns-clause-front g c = c.refute.ensures.front

pub returns-clause-whole : goal.returns-clause-whole
returns-clause-whole g c = c.refute.ensures.whole
