use Rattle.lc_exploring_claims.proofs.watching.Goals as goal

pub returns : goal.returns
returns c = c.broken_claim.ensures
