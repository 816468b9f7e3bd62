use Rattle.lc_kernel.proofs.First.{derives_or_fails}
use Rattle.lc_kernel.proofs.laws.a_proof_derives_or_fails.Goals as goal

pub returns : goal.returns
returns c = λ v H p. derives_or_fails p v H
