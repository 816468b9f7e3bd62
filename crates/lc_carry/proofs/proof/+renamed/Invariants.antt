use Rattle.std.proofs.Common.{◌≡◌, take}
use Rattle.std.specs.Prelude.{map}
use Rattle.lc_kernel.specs.View.{proofs_of}
use Rattle.lc_carry.specs.Renaming.{column_for}
use Rattle.lc_carry.specs.RenamedProofs.{renamed}
use Rattle.lc_carry.proofs.proof.+renamed.Given as goal

-- the proofs so far are renamed
abbrev pub invariant-all_renamed-loop-proof : goal.invariant-all_renamed-loop-proof
invariant-all_renamed-loop-proof l = proofs_of l.made.items ≡ map (renamed (column_for l.columns)) (proofs_of (take l.proof-index l.proofs))
