use Rattle.lc_logic_claims.proofs.forms.comparing.Goals as goal

pub returns : goal.returns
returns c = c.is_same_as.ensures
