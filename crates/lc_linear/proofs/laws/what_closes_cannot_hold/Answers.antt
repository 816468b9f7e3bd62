use Rattle.lc_linear.proofs.Refutes.{closes_refutes}
use Rattle.lc_linear.proofs.laws.what_closes_cannot_hold.Goals as goal

pub returns : goal.returns
returns c = closes_refutes
