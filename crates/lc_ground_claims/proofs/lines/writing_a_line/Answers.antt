use Rattle.lc_ground_claims.proofs.lines.writing_a_line.Goals as goal

pub returns : goal.returns
returns c = c.write_line.ensures
