use Rattle.lc_short_claims.proofs.filling.finding_an_item.Goals as goal

pub returns : goal.returns
returns c = c.meant.ensures
