use Rattle.std.proofs.Common.{◌≡◌, ap, arith, rules, drop}
use Rattle.lc_kernel.specs.Proofs.{proofs, size_of_all}
use Rattle.lc_kernel.specs.View.{proofs_of}
use Rattle.lc_kernel.proofs.Branches.{drop_past}
use Rattle.lc_kernel.proofs.proof.Proof.+step_count.Goals as goal

pub returns : goal.returns
returns t c =
    let xs = c.deref-branch-items.result.now in
    let past : size_of_all (proofs (proofs_of (drop c.loop-branch.branch-index xs))) ≡ 0 = ap size_of_all (drop_past xs c.loop-branch.branch-index (search rules)) in
    let inv = c.loop-branch.invariant in
    omega (arith, past, inv.0, inv.1)
