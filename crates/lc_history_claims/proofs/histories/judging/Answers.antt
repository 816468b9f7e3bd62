use Rattle.lc_history_claims.proofs.histories.judging.Goals as goal

pub returns : goal.returns
returns g c = c.judge.ensures
