use Rattle.lc_finding_claims.proofs.finding.finding.Goals as goal

pub returns : goal.returns
returns c = c.find.ensures
