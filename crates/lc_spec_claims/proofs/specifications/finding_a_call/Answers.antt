use Rattle.lc_spec_claims.proofs.specifications.finding_a_call.Goals as goal

pub returns : goal.returns
returns c = c.call_of.ensures
