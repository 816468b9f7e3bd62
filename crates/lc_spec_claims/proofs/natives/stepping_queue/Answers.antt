use Rattle.lc_spec_claims.proofs.natives.stepping_queue.Goals as goal

pub returns : goal.returns
returns c = c.step.ensures
