use Rattle.lc_touring_claims.proofs.finding.Goals as goal

pub returns : goal.returns
returns c = c.find_faults.ensures
