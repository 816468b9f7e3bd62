use Rattle.lc_finding_claims.proofs.finding.certifying.Goals as goal

pub returns-clause-accepted : goal.returns-clause-accepted
returns-clause-accepted c = c.certificate.ensures.accepted

pub returns-clause-exactly : goal.returns-clause-exactly
returns-clause-exactly c = c.certificate.ensures.exactly
