use Rattle.lc_rider_claims.proofs.riders.conditioning.Goals as goal

pub returns-clause-some : goal.returns-clause-some
returns-clause-some c = c.new.ensures.some

pub returns-clause-value : goal.returns-clause-value
returns-clause-value c = c.new.ensures.value
