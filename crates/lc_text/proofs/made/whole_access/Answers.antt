use Rattle.lc_text.proofs.made.whole_access.Goals as goal

pub returns : goal.returns
returns c = λ r read. c.made_access.ensures r (rw (c.ended.ensures, c.both.ensures) read)
