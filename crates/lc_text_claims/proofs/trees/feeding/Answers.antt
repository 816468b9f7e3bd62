use Rattle.lc_text_claims.proofs.trees.feeding.Goals as goal

pub returns : goal.returns
returns c = c.feed.ensures.fed
