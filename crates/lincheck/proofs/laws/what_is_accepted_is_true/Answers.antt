use Rattle.lincheck.proofs.OneAnswer.{accepted_is_true}
use Rattle.lincheck.proofs.laws.what_is_accepted_is_true.Goals as goal

pub returns : goal.returns
returns c = accepted_is_true
