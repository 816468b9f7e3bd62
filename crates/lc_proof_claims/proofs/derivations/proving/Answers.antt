use Rattle.lc_proof_claims.proofs.derivations.proving.Goals as goal

pub returns-clause-exactly : goal.returns-clause-exactly
returns-clause-exactly c = c.prove.ensures.exactly

pub returns-clause-valid : goal.returns-clause-valid
returns-clause-valid c = c.prove.ensures.valid
