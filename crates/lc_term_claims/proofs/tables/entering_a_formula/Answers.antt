use Rattle.lc_term_claims.proofs.tables.entering_a_formula.Goals as goal

pub returns : goal.returns
returns c = c.enter_formula.ensures.id
