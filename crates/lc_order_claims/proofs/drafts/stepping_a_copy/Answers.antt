use Rattle.lc_order_claims.proofs.drafts.stepping_a_copy.Goals as goal

pub returns : goal.returns
returns c = c.after.ensures
