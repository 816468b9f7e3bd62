use Rattle.std.proofs.Common.{ap, ap₂, ◌∙◌, sym}
use Rattle.lc_kernel.specs.Proofs as S
use Rattle.lc_kernel.specs.View.{proofs_of}
use Rattle.lc_kernel.proofs.Checked.{proof_of-proof, proof_of-made}
use Rattle.lc_kernel.proofs.proof.Proof.try_clone.Goals as goal

pub returns : goal.returns
returns c =
    proof_of-made c.in_ok-step.step c.in_ok-branches.branches ∙ ap₂ (λ s ps. S.proof s (S.proofs ps)) c.in_ok-step.ensures (c.in_ok-branches.ensures ∙ ap proofs_of c.deref.ensures.value) ∙ sym (proof_of-proof c.args.self.now)
