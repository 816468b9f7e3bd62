use Rattle.lc_text.proofs.ReadBack.{numbered_back}
use Rattle.lc_text.proofs.laws.numbered_variables_read_back.Goals as goal

pub returns : goal.returns
returns c = numbered_back
