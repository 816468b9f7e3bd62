use Rattle.lc_text_claims.proofs.readings.refusing.Goals as goal

pub returns : goal.returns
returns c = c.refusal.ensures
