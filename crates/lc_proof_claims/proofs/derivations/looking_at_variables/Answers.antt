use Rattle.lc_proof_claims.proofs.derivations.looking_at_variables.Goals as goal

pub returns : goal.returns
returns c = c.uses_its_variables.ensures
