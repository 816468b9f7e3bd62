use Rattle.lc_logic_claims.proofs.failures.telling.Goals as goal

pub returns : goal.returns
returns c = c.tell.ensures
