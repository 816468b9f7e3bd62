use Rattle.lc_kernel.proofs.First.{fails_not_derives, fails_once}
use Rattle.lc_kernel.proofs.laws.a_proof_has_one_first_flaw.Goals as goal

pub returns-clause-one : goal.returns-clause-one
returns-clause-one c = λ v H p n m why why' f g. fails_once f g

pub returns-clause-excludes : goal.returns-clause-excludes
returns-clause-excludes c = λ v H p n why f d. fails_not_derives f d
