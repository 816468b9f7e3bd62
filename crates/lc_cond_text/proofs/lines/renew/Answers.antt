use Rattle.lc_cond_text.proofs.lines.renew.Goals as goal

pub returns-then-len-most : goal.returns-then-len-most
returns-then-len-most c = λ by recalls. c.no_texts-none.ensures by c.new-fresh.result
