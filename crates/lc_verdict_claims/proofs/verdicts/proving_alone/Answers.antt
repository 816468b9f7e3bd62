use Rattle.lc_verdict_claims.proofs.verdicts.proving_alone.Goals as goal

pub returns-clause-exactly : goal.returns-clause-exactly
returns-clause-exactly c = c.prove.ensures.exactly

pub returns-clause-kept : goal.returns-clause-kept
returns-clause-kept c = c.prove.ensures.kept
