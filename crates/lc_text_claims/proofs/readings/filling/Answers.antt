use Rattle.lc_text_claims.proofs.readings.filling.Goals as goal

pub returns : goal.returns
returns c = c.is_full.ensures
