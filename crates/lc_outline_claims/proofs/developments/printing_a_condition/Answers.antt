use Rattle.lc_outline_claims.proofs.developments.printing_a_condition.Goals as goal

pub returns : goal.returns
returns c = c.condition_text.ensures
