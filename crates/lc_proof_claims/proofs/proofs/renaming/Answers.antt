use Rattle.lc_proof_claims.proofs.proofs.renaming.Goals as goal

pub returns : goal.returns
returns c = c.renamed.ensures
