use Rattle.lc_condition_claims.proofs.conditions.naming_a_column.Goals as goal

pub returns : goal.returns
returns c = c.column_name.ensures
