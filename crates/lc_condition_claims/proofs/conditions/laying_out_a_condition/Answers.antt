use Rattle.lc_condition_claims.proofs.conditions.laying_out_a_condition.Goals as goal

pub returns : goal.returns
returns c = c.condition_over_lines.ensures
