use Rattle.lc_order_claims.proofs.drafts.comparing.Goals as goal

pub returns : goal.returns
returns c = c.are_same.ensures
