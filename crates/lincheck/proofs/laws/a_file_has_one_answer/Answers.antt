use Rattle.lincheck.proofs.OneAnswer.{one_answer}
use Rattle.lincheck.proofs.laws.a_file_has_one_answer.Goals as goal

pub returns : goal.returns
returns c = one_answer
