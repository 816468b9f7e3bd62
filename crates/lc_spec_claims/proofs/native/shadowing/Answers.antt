use Rattle.lc_spec_claims.proofs.native.shadowing.Goals as goal

pub returns : goal.returns
returns c = c.shadow.ensures.shadow
