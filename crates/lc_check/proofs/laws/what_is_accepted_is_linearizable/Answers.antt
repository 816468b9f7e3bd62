use Rattle.lc_check.proofs.AcceptedObjects.{accepted_is_linearizable}
use Rattle.lc_check.proofs.laws.what_is_accepted_is_linearizable.Goals as goal

pub returns : goal.returns
returns c = accepted_is_linearizable
