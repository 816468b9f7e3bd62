use Rattle.lincheck.proofs.OneHistory.{one_history_answer}
use Rattle.lincheck.proofs.laws.a_history_has_one_answer.Goals as goal

pub returns : goal.returns
returns c = one_history_answer
