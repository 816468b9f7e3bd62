use Rattle.lc_cond.proofs.PartsList.{in_parts}
use Rattle.lc_cond.proofs.laws.parts_make_the_list.Goals as goal

pub returns : goal.returns
returns c = in_parts
