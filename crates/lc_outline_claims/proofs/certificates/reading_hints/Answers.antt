use Rattle.lc_outline_claims.proofs.certificates.reading_hints.Goals as goal

pub returns : goal.returns
returns c = c.hints_of.ensures.answer
