use Rattle.lc_text_claims.proofs.trees.taking.Goals as goal

pub returns : goal.returns
returns c = c.take.ensures.part
