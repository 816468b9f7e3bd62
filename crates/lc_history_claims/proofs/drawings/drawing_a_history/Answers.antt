use Rattle.lc_history_claims.proofs.drawings.drawing_a_history.Goals as goal

pub returns : goal.returns
returns c = c.drawing.ensures
