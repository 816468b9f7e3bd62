use Rattle.lc_text_claims.proofs.readings.using_a_name.Goals as goal

pub returns : goal.returns
returns c = c.read_use.ensures
