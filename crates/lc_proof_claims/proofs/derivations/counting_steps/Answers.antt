use Rattle.lc_proof_claims.proofs.derivations.counting_steps.Goals as goal

pub returns : goal.returns
returns c = c.step_count.ensures
