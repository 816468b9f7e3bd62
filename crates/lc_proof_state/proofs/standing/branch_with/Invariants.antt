use Rattle.std.proofs.Common.{◌≡◌, drop}
use Rattle.lc_kernel.specs.Proofs.{proofs}
use Rattle.lc_kernel.specs.View.{proofs_of}
use Rattle.lc_proof_state.specs.Walk.{branch_in}
use Rattle.lc_proof_state.proofs.standing.branch_with.Given as goal

-- it is the one among those that are left
abbrev pub invariant-loop-place : goal.invariant-loop-place
invariant-loop-place l = branch_in (proofs (proofs_of l.branches)) 0 l.step ≡ branch_in (proofs (proofs_of (drop l.place l.branches))) l.place l.left
