use Rattle.lc_term_claims.proofs.terms.rolling_back.Goals as goal

pub returns : goal.returns
returns c = c.roll_back.ensures.written
