use Rattle.lc_object_claims.proofs.riders.reading_an_action.Goals as goal

pub returns : goal.returns
returns c = c.read.ensures
