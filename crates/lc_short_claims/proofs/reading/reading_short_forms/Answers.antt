use Rattle.lc_short_claims.proofs.reading.reading_short_forms.Goals as goal

pub returns : goal.returns
returns c = c.short_in.ensures
