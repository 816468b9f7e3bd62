use Rattle.std.proofs.Common.{◌≡◌, ◌+◌, ◌-◌, ◌<◌, ◌^◌, min, drop}
use Rattle.lc_kernel.specs.Proofs.{proofs, size, size_of_all}
use Rattle.lc_kernel.specs.View.{proof_of, proofs_of}
use Rattle.lc_kernel.proofs.proof.Proof.+step_count.Given as goal

-- the steps that are counted, and those that are left
abbrev pub invariant-loop-branch : goal.invariant-loop-branch
invariant-loop-branch l =
    (min (l.count + size_of_all (proofs (proofs_of (drop l.branch-index l.branch-items)))) (2 ^ 64 - 1) ≡ min (size (proof_of l.self)) (2 ^ 64 - 1))
    × (l.count < 2 ^ 64)
