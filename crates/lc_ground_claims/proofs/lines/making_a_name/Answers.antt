use Rattle.lc_ground_claims.proofs.lines.making_a_name.Goals as goal

pub returns-clause-valid : goal.returns-clause-valid
returns-clause-valid c = c.new.ensures.valid

pub returns-clause-value : goal.returns-clause-value
returns-clause-value c = c.new.ensures.value
