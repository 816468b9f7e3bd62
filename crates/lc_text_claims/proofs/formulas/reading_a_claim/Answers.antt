use Rattle.lc_text_claims.proofs.formulas.reading_a_claim.Goals as goal

pub returns : goal.returns
returns c = c.formula_of.ensures.answer
