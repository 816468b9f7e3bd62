use Rattle.lc_term_claims.proofs.terms.shifting.Goals as goal

pub returns : goal.returns
returns c = c.shift.ensures
