use Rattle.lc_term_claims.proofs.terms.substituting.Goals as goal

pub returns : goal.returns
returns c = c.substitute.ensures
