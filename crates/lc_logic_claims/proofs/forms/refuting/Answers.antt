use Rattle.lc_logic_claims.proofs.forms.refuting.Goals as goal

pub returns : goal.returns
returns c = c.refute.ensures
