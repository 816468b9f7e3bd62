use Rattle.lc_ground_claims.proofs.lines.coding.Goals as goal

pub returns : goal.returns
returns c = c.code.ensures
