use Rattle.lc_machine.proofs.Going.{goes_on}
use Rattle.lc_machine.proofs.laws.a_run_goes_on.Goals as goal

pub returns : goal.returns
returns c = goes_on
