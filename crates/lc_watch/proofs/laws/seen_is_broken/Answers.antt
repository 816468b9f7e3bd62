use Rattle.lc_watch.proofs.Found.{seen_broken}
use Rattle.lc_watch.proofs.laws.seen_is_broken.Goals as goal

pub returns : goal.returns
returns c = seen_broken c.looks_are_right.ensures
