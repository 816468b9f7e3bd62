use Rattle.lc_term_claims.proofs.terms.is_ground.Goals as goal

pub returns : goal.returns
returns c = c.is_ground_of_quantifiers.ensures
