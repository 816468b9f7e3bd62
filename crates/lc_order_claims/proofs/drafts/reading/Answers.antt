use Rattle.lc_order_claims.proofs.drafts.reading.Goals as goal

pub returns : goal.returns
returns c = c.only_reads.ensures
