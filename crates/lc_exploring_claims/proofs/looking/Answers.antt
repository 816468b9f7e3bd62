use Rattle.lc_exploring_claims.proofs.looking.Goals as goal

pub returns-clause-seen : goal.returns-clause-seen
returns-clause-seen c = c.look.ensures.seen

pub returns-clause-right : goal.returns-clause-right
returns-clause-right c = c.look.ensures.right
