use Rattle.lc_look.proofs.Seeing.{looking_is_right}
use Rattle.lc_look.proofs.laws.looks_are_right.Goals as goal

pub returns : goal.returns
returns c = looking_is_right
