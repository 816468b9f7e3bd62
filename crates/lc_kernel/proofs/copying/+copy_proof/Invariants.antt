use Rattle.std.proofs.Common.{◌≡◌, take}
use Rattle.lc_kernel.specs.View.{proofs_of}
use Rattle.lc_kernel.proofs.copying.+copy_proof.Given as goal

-- the proofs so far are copied
abbrev pub invariant-copies_of-loop-proof : goal.invariant-copies_of-loop-proof
invariant-copies_of-loop-proof l = proofs_of l.copies.items ≡ proofs_of (take l.proof-index l.proofs)
