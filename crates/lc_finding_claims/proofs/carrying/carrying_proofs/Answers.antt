use Rattle.lc_finding_claims.proofs.carrying.carrying_proofs.Goals as goal

pub returns-clause-exactly : goal.returns-clause-exactly
returns-clause-exactly c = c.carried_entries.ensures.exactly

pub returns-clause-few : goal.returns-clause-few
returns-clause-few c = c.carried_entries.ensures.few
