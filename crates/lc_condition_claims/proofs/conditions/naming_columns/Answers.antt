use Rattle.lc_condition_claims.proofs.conditions.naming_columns.Goals as goal

pub returns : goal.returns
returns c = c.column_names.ensures
