use Rattle.lc_logic_claims.proofs.forms.forming_a_difference.Goals as goal

pub returns : goal.returns
returns c = c.form_of_difference.ensures
