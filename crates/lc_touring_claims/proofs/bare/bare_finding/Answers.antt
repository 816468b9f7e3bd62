use Rattle.lc_touring_claims.proofs.bare.bare_finding.Goals as goal

pub returns : goal.returns
returns c = c.find_bare_faults.ensures
