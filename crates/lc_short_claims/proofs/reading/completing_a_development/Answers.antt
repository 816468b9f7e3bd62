use Rattle.lc_short_claims.proofs.reading.completing_a_development.Goals as goal

pub returns : goal.returns
returns c = c.completed.ensures
