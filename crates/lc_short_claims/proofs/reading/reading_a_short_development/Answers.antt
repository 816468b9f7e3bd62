use Rattle.lc_short_claims.proofs.reading.reading_a_short_development.Goals as goal

pub returns : goal.returns
returns c = c.short_of.ensures
