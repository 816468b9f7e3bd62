use Rattle.lc_proof_claims.proofs.proofs.finding_a_step.Goals as goal

pub returns : goal.returns
returns c = c.stands_at.ensures
