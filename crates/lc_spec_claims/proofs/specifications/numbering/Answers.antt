use Rattle.lc_spec_claims.proofs.specifications.numbering.Goals as goal

pub returns : goal.returns
returns c = c.numbers_of.ensures
