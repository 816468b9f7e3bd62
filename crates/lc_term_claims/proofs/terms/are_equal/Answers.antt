use Rattle.lc_term_claims.proofs.terms.are_equal.Goals as goal

pub returns : goal.returns
returns c = c.eq.ensures
