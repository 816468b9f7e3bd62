use Rattle.lc_logic_claims.proofs.forms.forming.Goals as goal

pub returns : goal.returns
returns c = c.form_of.ensures
