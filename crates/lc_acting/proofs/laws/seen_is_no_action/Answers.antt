use Rattle.lc_acting.proofs.Apart.{seen_no_action}
use Rattle.lc_acting.proofs.laws.seen_is_no_action.Goals as goal

pub returns : goal.returns
returns c = seen_no_action c.looks_are_right.ensures
