use Rattle.lc_cond_text.proofs.texts.push_repeated.Goals as goal

pub push_at-requires-clause-ordered : goal.push_at-requires-clause-ordered
push_at-requires-clause-ordered c = (c.requires.recalls c.args.formula c.in-Some.place c.in-Some.ensures).1.ordered

pub push_at-requires-clause-within : goal.push_at-requires-clause-within
push_at-requires-clause-within c = (c.requires.recalls c.args.formula c.in-Some.place c.in-Some.ensures).1.within
