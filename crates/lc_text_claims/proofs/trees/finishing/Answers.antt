use Rattle.lc_text_claims.proofs.trees.finishing.Goals as goal

pub returns-clause-answer : goal.returns-clause-answer
returns-clause-answer c = c.finish.ensures.answer

pub returns-clause-never_again : goal.returns-clause-never_again
returns-clause-never_again c = c.finish.ensures.never_again
