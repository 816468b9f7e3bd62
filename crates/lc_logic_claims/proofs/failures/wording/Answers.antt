use Rattle.lc_logic_claims.proofs.failures.wording.Goals as goal

pub returns : goal.returns
returns c = c.words_of.ensures
