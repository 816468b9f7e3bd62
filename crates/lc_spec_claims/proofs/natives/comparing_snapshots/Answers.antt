use Rattle.lc_spec_claims.proofs.natives.comparing_snapshots.Goals as goal

pub returns : goal.returns
returns c = c.are_same.ensures
