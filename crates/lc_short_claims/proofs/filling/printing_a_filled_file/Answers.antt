use Rattle.lc_short_claims.proofs.filling.printing_a_filled_file.Goals as goal

pub returns : goal.returns
returns c = c.text.ensures
