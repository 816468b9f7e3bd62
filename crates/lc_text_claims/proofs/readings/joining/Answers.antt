use Rattle.lc_text_claims.proofs.readings.joining.Goals as goal

pub returns : goal.returns
returns c = c.and.ensures
