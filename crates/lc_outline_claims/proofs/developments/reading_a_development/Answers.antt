use Rattle.lc_outline_claims.proofs.developments.reading_a_development.Goals as goal

pub returns : goal.returns
returns c = c.development_of.ensures
