use Rattle.lc_text_claims.proofs.trees.naming.Goals as goal

pub returns : goal.returns
returns c = c.name.ensures
