use Rattle.std.proofs.Common.{ap, ◌∙◌, sym}
use Rattle.lc_kernel.proofs.Checked.{proof_of-proof}
use Rattle.lc_kernel.specs.Proofs as S
use Rattle.lc_kernel.specs.View.{step_of, proofs_of}
use Rattle.lc_kernel.specs.declared.proof.Proof.{out-Proof}
use Rattle.lc_kernel.proofs.copying.+copy_proof.Goals as goal

pub push_copy-returns : goal.push_copy-returns
push_copy-returns t c =
    let step = step_of (out-Proof c.args.proof.now).step in
    let same = ap (λ ps. S.proof step (S.proofs ps)) (c.in_ok-branches.ensures ∙ ap proofs_of c.deref.ensures.value) ∙ sym (proof_of-proof c.args.proof.now) in
    rw same at c.push_with_step.ensures
