use Rattle.lc_logic_claims.proofs.axioms.taking_a_stored_value.Goals as goal

pub returns : goal.returns
returns c = c.written_axiom.ensures.id
