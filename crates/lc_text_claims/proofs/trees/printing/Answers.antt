use Rattle.lc_text_claims.proofs.trees.printing.Goals as goal

pub returns : goal.returns
returns c = c.print.ensures
