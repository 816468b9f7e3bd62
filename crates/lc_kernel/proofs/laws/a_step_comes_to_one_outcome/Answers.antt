use Rattle.lc_kernel.proofs.Once.{gives_some, gives_once}
use Rattle.lc_kernel.proofs.laws.a_step_comes_to_one_outcome.Goals as goal

pub returns-clause-some : goal.returns-clause-some
returns-clause-some c = gives_some

pub returns-clause-one : goal.returns-clause-one
returns-clause-one c = gives_once
