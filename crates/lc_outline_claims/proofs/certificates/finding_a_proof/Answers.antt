use Rattle.lc_outline_claims.proofs.certificates.finding_a_proof.Goals as goal

pub returns : goal.returns
returns c = c.proof.ensures
