use Rattle.lc_term_claims.proofs.tables.entering_a_term.Goals as goal

pub returns : goal.returns
returns c = c.enter_term.ensures.id
