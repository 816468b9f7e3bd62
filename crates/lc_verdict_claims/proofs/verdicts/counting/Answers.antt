use Rattle.lc_verdict_claims.proofs.verdicts.counting.Goals as goal

pub returns : goal.returns
returns c = c.proven_count.ensures
