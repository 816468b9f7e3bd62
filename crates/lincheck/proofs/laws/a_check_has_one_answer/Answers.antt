use Rattle.lincheck.proofs.OneCheck.{one_check_answer}
use Rattle.lincheck.proofs.laws.a_check_has_one_answer.Goals as goal

pub returns : goal.returns
returns c = one_check_answer
