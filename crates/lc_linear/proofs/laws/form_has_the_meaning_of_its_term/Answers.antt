use Rattle.lc_linear.proofs.Meaning.{value-listed}
use Rattle.lc_linear.proofs.laws.form_has_the_meaning_of_its_term.Goals as goal

pub returns : goal.returns
returns c = value-listed
