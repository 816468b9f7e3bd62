use Rattle.lc_spec_claims.proofs.specifications.choosing.Goals as goal

pub returns : goal.returns
returns c = c.agrees.ensures
