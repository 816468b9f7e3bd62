use Rattle.lc_term_claims.proofs.terms.evaluating.Goals as goal

pub returns-clause-meaning : goal.returns-clause-meaning
returns-clause-meaning c = c.eval.ensures.meaning

pub returns-clause-overflow : goal.returns-clause-overflow
returns-clause-overflow c = c.eval.ensures.overflow
