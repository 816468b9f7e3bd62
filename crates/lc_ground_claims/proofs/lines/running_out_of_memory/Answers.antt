use Rattle.lc_ground_claims.proofs.lines.running_out_of_memory.Goals as goal

pub returns : goal.returns
returns c = c.from.ensures
