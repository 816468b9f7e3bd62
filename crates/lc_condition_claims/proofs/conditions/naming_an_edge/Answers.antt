use Rattle.lc_condition_claims.proofs.conditions.naming_an_edge.Goals as goal

pub returns : goal.returns
returns c = c.edge_word.ensures
