use Rattle.lc_rider_claims.proofs.rides.riding.Goals as goal

pub returns-clause-done : goal.returns-clause-done
returns-clause-done c = c.ride_all.ensures.done

pub returns-clause-saved : goal.returns-clause-saved
returns-clause-saved c = c.ride_all.ensures.saved

pub returns-clause-columns : goal.returns-clause-columns
returns-clause-columns c = c.ride_all.ensures.columns
