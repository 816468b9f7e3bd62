use Rattle.lc_short_claims.proofs.making.reading_back_what_is_made.Goals as goal

pub returns : goal.returns
returns c = c.what_is_made_is_read_back.ensures
