use Rattle.lc_order_claims.proofs.drafts.listing.Goals as goal

pub returns : goal.returns
returns c = c.choices.ensures
