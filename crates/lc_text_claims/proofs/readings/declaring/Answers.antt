use Rattle.lc_text_claims.proofs.readings.declaring.Goals as goal

pub returns : goal.returns
returns c = c.read_declaration.ensures
