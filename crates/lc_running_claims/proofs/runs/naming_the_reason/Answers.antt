use Rattle.lc_running_claims.proofs.runs.naming_the_reason.Goals as goal

pub returns-clause-whole : goal.returns-clause-whole
returns-clause-whole g c = c.why_not.ensures.whole

pub returns-clause-why : goal.returns-clause-why
returns-clause-why g c = c.why_not.ensures.why
