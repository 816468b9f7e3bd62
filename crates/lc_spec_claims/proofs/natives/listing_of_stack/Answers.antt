use Rattle.lc_spec_claims.proofs.natives.listing_of_stack.Goals as goal

pub returns : goal.returns
returns c = c.choices.ensures
