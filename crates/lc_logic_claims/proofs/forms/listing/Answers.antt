use Rattle.lc_logic_claims.proofs.forms.listing.Goals as goal

pub returns : goal.returns
returns c = c.atom_at.ensures
