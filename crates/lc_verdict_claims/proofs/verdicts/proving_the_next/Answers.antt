use Rattle.lc_verdict_claims.proofs.verdicts.proving_the_next.Goals as goal

pub returns : goal.returns
returns c = c.prove_next.ensures
