use Rattle.lc_exploring_claims.proofs.writing.Goals as goal

pub returns : goal.returns
returns c = c.with_cell.ensures.made
