use Rattle.lc_text_claims.proofs.readings.placing.Goals as goal

pub returns : goal.returns
returns c = c.place.ensures
