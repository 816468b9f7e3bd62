use Rattle.lc_verdict_claims.proofs.workers.checking_by_workers.Goals as goal

pub returns-clause-exactly : goal.returns-clause-exactly
returns-clause-exactly g c = c.check_with.ensures.exactly

pub returns-clause-linearizable : goal.returns-clause-linearizable
returns-clause-linearizable g c = c.check_with.ensures.linearizable
