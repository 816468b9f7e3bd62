use Rattle.lc_sexp.proofs.Whole.{whole_parts}
use Rattle.lc_sexp.proofs.laws.all_parts_end.Goals as goal

pub returns : goal.returns
returns c = whole_parts
