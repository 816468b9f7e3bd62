use Rattle.lc_history_claims.proofs.histories.writing_a_history.Goals as goal

pub returns-clause-text : goal.returns-clause-text
returns-clause-text c = c.history_to_json.ensures.text

pub returns-clause-reads_back : goal.returns-clause-reads_back
returns-clause-reads_back c = c.history_to_json.ensures.reads_back
