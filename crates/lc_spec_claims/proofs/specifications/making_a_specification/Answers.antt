use Rattle.lc_spec_claims.proofs.specifications.making_a_specification.Goals as goal

pub returns-clause-resolved : goal.returns-clause-resolved
returns-clause-resolved c = c.new.ensures.resolved

pub returns-clause-value : goal.returns-clause-value
returns-clause-value c = c.new.ensures.value
