use Rattle.std.proofs.Common.{◌≡◌, drop}
use Rattle.lc_kernel.specs.Proofs.{proofs}
use Rattle.lc_kernel.specs.View.{proofs_of}
use Rattle.lc_carry.specs.Renaming.{column_for}
use Rattle.lc_carry.specs.RenamedProofs.{are_covered}
use Rattle.lc_carry.proofs.proof.+is_covered.Given as goal

-- the proofs that are left decide the answer
abbrev pub invariant-are_covered-loop-proof : goal.invariant-are_covered-loop-proof
invariant-are_covered-loop-proof l =
    are_covered (column_for l.columns) (proofs (proofs_of l.branches)) ≡ are_covered (column_for l.columns) (proofs (proofs_of (drop l.proof-index l.branches)))
