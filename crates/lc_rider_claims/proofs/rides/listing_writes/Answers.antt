use Rattle.lc_rider_claims.proofs.rides.listing_writes.Goals as goal

pub returns-clause-written : goal.returns-clause-written
returns-clause-written c = c.writes.ensures.written

pub returns-clause-within : goal.returns-clause-within
returns-clause-within c = c.writes.ensures.within
