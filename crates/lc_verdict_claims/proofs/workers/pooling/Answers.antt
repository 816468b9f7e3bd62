use Rattle.lc_verdict_claims.proofs.workers.pooling.Goals as goal

pub returns : goal.returns
returns g c = c.pooled.ensures
