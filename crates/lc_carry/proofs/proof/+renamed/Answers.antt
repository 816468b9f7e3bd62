use Rattle.std.proofs.Common.{ap, ◌∙◌, sym}
use Rattle.std.specs.Prelude.{map}
use Rattle.lc_kernel.specs.Proofs as S
use Rattle.lc_kernel.specs.View.{step_of, proofs_of}
use Rattle.lc_kernel.specs.declared.proof.Proof.{out-Proof}
use Rattle.lc_carry.proofs.Branches.{renamed-proof}
use Rattle.lc_carry.specs.Renaming.{column_for}
use Rattle.lc_carry.specs.RenamedProofs.{renamed_step, renamed}
use Rattle.lc_carry.proofs.proof.+renamed.Goals as goal

pub push_renamed-returns : goal.push_renamed-returns
push_renamed-returns t c =
    let to = column_for c.args.columns.now in
    let p = c.args.proof.now in
    let step = renamed_step to (step_of (out-Proof p).step) in
    let branches = c.in_ok-branches.ensures ∙ ap (λ ps. map (renamed to) (proofs_of ps)) c.deref.ensures.value in
    let same = ap (λ ps. S.proof step (S.proofs ps)) branches ∙ sym (renamed-proof to p) in
    rw same at c.push_with_step.ensures
