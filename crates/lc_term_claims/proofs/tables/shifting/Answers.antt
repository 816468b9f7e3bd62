use Rattle.lc_term_claims.proofs.tables.shifting.Goals as goal

pub returns : goal.returns
returns c = c.shift.ensures.id
