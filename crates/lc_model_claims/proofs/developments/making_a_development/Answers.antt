use Rattle.lc_model_claims.proofs.developments.making_a_development.Goals as goal

pub of_parts-requires-clause-resolved : goal.of_parts-requires-clause-resolved
of_parts-requires-clause-resolved c = c.requires.resolved

pub of_parts-requires-clause-limited : goal.of_parts-requires-clause-limited
of_parts-requires-clause-limited c = c.requires.limited

pub returns : goal.returns
returns c = c.of_parts.ensures
