use Rattle.lincheck.proofs.OneHistory.{accepted_is_linearizable}
use Rattle.lincheck.proofs.laws.what_is_accepted_is_linearizable.Goals as goal

pub returns : goal.returns
returns c = accepted_is_linearizable
