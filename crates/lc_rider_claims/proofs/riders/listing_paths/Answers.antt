use Rattle.lc_rider_claims.proofs.riders.listing_paths.Goals as goal

pub returns-clause-paths : goal.returns-clause-paths
returns-clause-paths c = c.paths.ensures.paths

pub returns-clause-kept : goal.returns-clause-kept
returns-clause-kept c = c.paths.ensures.kept
