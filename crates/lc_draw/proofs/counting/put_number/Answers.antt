use Rattle.lc_draw.proofs.counting.put_number.Goals as goal

pub returns : goal.returns
returns c = λ k t. c.in_ok-insert.ensures.updates.0 (k, t)
