use Rattle.lc_history_claims.proofs.histories.reading_a_history.Goals as goal

pub returns : goal.returns
returns c = c.history_from_json.ensures
