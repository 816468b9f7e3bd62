use Rattle.lc_layout.proofs.Back.{laid_again}
use Rattle.lc_layout.proofs.laws.laying_out_again_changes_nothing.Goals as goal

pub returns : goal.returns
returns c = laid_again
