use Rattle.lc_ground_claims.proofs.lines.writing_a_refusal.Goals as goal

pub returns : goal.returns
returns c = c.refusal_line.ensures
