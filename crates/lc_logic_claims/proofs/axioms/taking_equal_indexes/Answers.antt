use Rattle.lc_logic_claims.proofs.axioms.taking_equal_indexes.Goals as goal

pub returns : goal.returns
returns c = c.same_index_axiom.ensures.id
