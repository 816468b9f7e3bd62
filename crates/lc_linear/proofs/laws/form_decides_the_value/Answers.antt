use Rattle.lc_linear.proofs.Meaning.{value_same}
use Rattle.lc_linear.proofs.laws.form_decides_the_value.Goals as goal

pub returns : goal.returns
returns c = value_same
