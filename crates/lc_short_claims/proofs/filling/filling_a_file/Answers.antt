use Rattle.lc_short_claims.proofs.filling.filling_a_file.Goals as goal

pub returns : goal.returns
returns c = c.fill.ensures
