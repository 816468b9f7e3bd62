use Rattle.lc_logic_claims.proofs.forms.closing.Goals as goal

pub returns : goal.returns
returns c = c.closes.ensures.closes
