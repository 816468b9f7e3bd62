use Rattle.lc_spec_claims.proofs.natives.copying_queue.Goals as goal

pub returns : goal.returns
returns c = c.copied.ensures.meaning
