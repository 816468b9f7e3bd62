use Rattle.lc_proof_claims.proofs.proofs.covering.Goals as goal

pub returns : goal.returns
returns c = c.is_covered.ensures
