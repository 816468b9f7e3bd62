use Rattle.lc_object_claims.proofs.riders.counting_paths.Goals as goal

pub returns : goal.returns
returns c = c.path_count.ensures
