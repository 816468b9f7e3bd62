use Rattle.lc_outline.proofs.Limited.{passed_is_limited}
use Rattle.lc_outline.proofs.laws.developments_are_limited.Goals as goal

pub returns : goal.returns
returns c = passed_is_limited
