use Rattle.lc_sexp.proofs.Whole.{taken_first}
use Rattle.lc_sexp.proofs.laws.taken_parts_are_the_first.Goals as goal

pub returns : goal.returns
returns c = taken_first
