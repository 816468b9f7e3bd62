use Rattle.lc_verdict_claims.proofs.verdicts.feeding.Goals as goal

pub returns-clause-fed : goal.returns-clause-fed
returns-clause-fed c = c.feed.ensures.fed

pub returns-clause-spent : goal.returns-clause-spent
returns-clause-spent c = c.feed.ensures.spent

pub returns-clause-never_again : goal.returns-clause-never_again
returns-clause-never_again c = c.feed.ensures.never_again
