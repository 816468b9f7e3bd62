use Rattle.lc_verdict_claims.proofs.verdicts.finishing.Goals as goal

pub returns-clause-exactly : goal.returns-clause-exactly
returns-clause-exactly c = c.finish.ensures.exactly

pub returns-clause-linearizable : goal.returns-clause-linearizable
returns-clause-linearizable c = c.finish.ensures.linearizable

pub returns-clause-never_again : goal.returns-clause-never_again
returns-clause-never_again c = c.finish.ensures.never_again
