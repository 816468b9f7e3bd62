use Rattle.lc_text.proofs.made.whole_store.Goals as goal

pub returns : goal.returns
returns c = λ r read. c.made_store.ensures r (rw (c.ended.ensures, c.both-2.ensures, c.both.ensures) read)
