use Rattle.lincheck.proofs.OneCheck.{checked_is_linearizable}
use Rattle.lincheck.proofs.laws.a_checked_object_is_linearizable.Goals as goal

pub returns : goal.returns
returns c = checked_is_linearizable
