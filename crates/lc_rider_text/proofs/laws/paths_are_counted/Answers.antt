use Rattle.lc_rider_text.proofs.PathsCounted.{riders_counted}
use Rattle.lc_rider_text.proofs.laws.paths_are_counted.Goals as goal

pub returns : goal.returns
returns c = riders_counted
