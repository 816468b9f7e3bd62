use Rattle.lc_kernel.specs.Proofs.{size}
use Rattle.lc_kernel.specs.View.{proof_of}
use Rattle.lc_proof_state.proofs.standing.+standing.Given as goal

abbrev pub decreases-standing_in : goal.decreases-standing_in
decreases-standing_in l = size (proof_of l.proof.now)
