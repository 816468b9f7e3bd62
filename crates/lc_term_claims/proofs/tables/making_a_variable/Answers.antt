use Rattle.lc_term_claims.proofs.tables.making_a_variable.Goals as goal

pub returns : goal.returns
returns c = c.variable.ensures.id
