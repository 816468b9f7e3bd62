use Rattle.lc_history_claims.proofs.histories.making_a_history.Goals as goal

pub returns : goal.returns
returns c = c.new.ensures
