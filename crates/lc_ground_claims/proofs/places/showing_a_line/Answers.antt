use Rattle.lc_ground_claims.proofs.places.showing_a_line.Goals as goal

pub returns : goal.returns
returns c = c.line_excerpt.ensures
