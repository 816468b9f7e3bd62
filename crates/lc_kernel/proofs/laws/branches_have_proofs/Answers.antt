use Rattle.lc_kernel.proofs.Grows.{Gives-count}
use Rattle.lc_kernel.proofs.laws.branches_have_proofs.Goals as goal

pub returns : goal.returns
returns c = Gives-count
