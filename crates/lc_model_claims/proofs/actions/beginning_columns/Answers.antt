use Rattle.lc_model_claims.proofs.actions.beginning_columns.Goals as goal

pub returns-clause-listed : goal.returns-clause-listed
returns-clause-listed c = c.initial_columns.ensures.listed

pub returns-clause-each : goal.returns-clause-each
returns-clause-each c = c.initial_columns.ensures.each
