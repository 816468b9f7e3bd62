use Rattle.std.proofs.Common.{◌++◌, ap₂}
use Rattle.lc_find.proofs.candidates.Candidates.new.Goals as goal

pub returns : goal.returns
returns c = ap₂ (λ xs ys. xs ++ ys) c.in_ok-given.ensures c.in_ok-hinted.ensures
