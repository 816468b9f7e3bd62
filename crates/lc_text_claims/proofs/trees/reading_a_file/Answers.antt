use Rattle.lc_text_claims.proofs.trees.reading_a_file.Goals as goal

pub returns : goal.returns
returns c = c.read.ensures.answer
