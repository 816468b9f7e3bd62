use Rattle.lc_text.proofs.made.whole_product.Goals as goal

pub returns : goal.returns
returns c = λ r read. c.made_product.ensures r (rw (c.ended.ensures, c.both.ensures) read)
