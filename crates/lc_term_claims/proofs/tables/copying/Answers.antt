use Rattle.lc_term_claims.proofs.tables.copying.Goals as goal

pub returns : goal.returns
returns c = c.copy_from.ensures.id
