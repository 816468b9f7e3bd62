use Rattle.lc_term_claims.proofs.terms.drafting.Goals as goal

pub returns : goal.returns
returns c = c.write_all.ensures.saved
