use Rattle.lc_history_claims.proofs.drawings.drawing_round_a_mark.Goals as goal

pub returns : goal.returns
returns c = c.drawing_round.ensures
