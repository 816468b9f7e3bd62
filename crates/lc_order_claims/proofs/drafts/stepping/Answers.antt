use Rattle.lc_order_claims.proofs.drafts.stepping.Goals as goal

pub returns : goal.returns
returns c = c.step.ensures
