use Rattle.lc_verdict_claims.proofs.meaning.validating.Goals as goal

pub returns : goal.returns
returns c = c.derived_conditions_are_valid.ensures.valid
