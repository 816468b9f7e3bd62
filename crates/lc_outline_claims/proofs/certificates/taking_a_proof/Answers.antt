use Rattle.lc_outline_claims.proofs.certificates.taking_a_proof.Goals as goal

pub returns : goal.returns
returns c = c.take.ensures.entry
