use Rattle.lc_term_claims.proofs.tables.replacing.Goals as goal

pub returns : goal.returns
returns c = c.replace.ensures.id
