use Rattle.lc_proof_claims.proofs.derivations.sharing_the_first.Goals as goal

pub returns : goal.returns
returns c = c.first.ensures
