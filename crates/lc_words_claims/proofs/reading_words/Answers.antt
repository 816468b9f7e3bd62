use Rattle.lc_words_claims.proofs.reading_words.Goals as goal

pub returns-clause-reads : goal.returns-clause-reads
returns-clause-reads c = c.read_words.ensures.reads

pub returns-clause-explained : goal.returns-clause-explained
returns-clause-explained c = c.read_words.ensures.explained

pub returns-clause-taken : goal.returns-clause-taken
returns-clause-taken c = c.read_words.ensures.taken

pub returns-clause-wrong : goal.returns-clause-wrong
returns-clause-wrong c = c.read_words.ensures.wrong

pub returns-clause-help : goal.returns-clause-help
returns-clause-help c = c.read_words.ensures.help
