use Rattle.lc_outline.proofs.Resolving.{passed_is_resolved}
use Rattle.lc_outline.proofs.laws.developments_are_resolved.Goals as goal

pub returns : goal.returns
returns c = passed_is_resolved
