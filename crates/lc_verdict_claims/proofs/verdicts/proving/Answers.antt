use Rattle.lc_verdict_claims.proofs.verdicts.proving.Goals as goal

pub returns-clause-exactly : goal.returns-clause-exactly
returns-clause-exactly c = c.prove_one.ensures.exactly

pub returns-clause-kept : goal.returns-clause-kept
returns-clause-kept c = c.prove_one.ensures.kept
