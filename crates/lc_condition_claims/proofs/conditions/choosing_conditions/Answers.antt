use Rattle.lc_condition_claims.proofs.conditions.choosing_conditions.Goals as goal

pub returns : goal.returns
returns c = c.chosen_conditions.ensures
