use Rattle.std.proofs.Common.{arith}
use Rattle.lc_cond.proofs.stretch.size_of.Goals as goal

pub returns : goal.returns
returns c = let h = c.max.ensures in omega (arith, h)
