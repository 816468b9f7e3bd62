use Rattle.std.proofs.Common.{sym, ap, ◌∙◌}
use Rattle.lc_kernel.proofs.Checked.{proof_of-proof}
use Rattle.lc_kernel.specs.Proofs.{proof, proofs}
use Rattle.lc_kernel.specs.View.{step_of, proofs_of}
use Rattle.lc_kernel.specs.declared.proof.Proof.{out-Proof}
use Rattle.lc_proof_text.proofs.PrintedProofs.{written_proof}
use Rattle.lc_proof_text.proofs.printing.+push_proof.Goals as goal

pub push_proof-returns : goal.push_proof-returns
push_proof-returns g t c =
    let own = step_of (out-Proof c.args.proof.now).step in
    written_proof (g.S.Spelling.spelled c.args.spelling.now) _ own _ _ _ _ _ _
    (proof_of-proof c.args.proof.now ∙ ap (λ xs. proof own (proofs (proofs_of xs))) (sym c.deref.ensures.value))
    c.in_ok-push_str.ensures.bytes c.in_ok-write_step.ensures c.in_ok-push_proofs.ensures c.in_ok-push_str-2.ensures.bytes
