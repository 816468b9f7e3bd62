use Rattle.lc_spec_claims.proofs.native.pooling.Goals as goal

pub returns : goal.returns
returns c = c.apply.ensures.applied
