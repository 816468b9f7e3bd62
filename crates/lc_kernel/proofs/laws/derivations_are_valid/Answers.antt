use Rattle.lc_kernel.proofs.Sound.{derived_is_valid}
use Rattle.lc_kernel.proofs.laws.derivations_are_valid.Goals as goal

pub returns : goal.returns
returns c = derived_is_valid
