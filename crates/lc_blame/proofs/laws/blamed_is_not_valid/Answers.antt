use Rattle.lc_blame.proofs.Refuting.{blamed_is_not_valid}
use Rattle.lc_blame.proofs.laws.blamed_is_not_valid.Goals as goal

pub returns : goal.returns
returns c = blamed_is_not_valid c.looks_are_right.ensures
