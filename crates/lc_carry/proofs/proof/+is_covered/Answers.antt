use Rattle.std.proofs.Common.{sym, ap, ◌∙◌}
use Rattle.std.specs.Prelude.{◌&&◌}
use Rattle.lc_kernel.proofs.Checked.{proof_of-proof}
use Rattle.lc_kernel.specs.Proofs.{proofs}
use Rattle.lc_kernel.specs.View.{proofs_of}
use Rattle.lc_kernel.specs.declared.proof.Proof.{out-Proof}
use Rattle.lc_carry.specs.Renaming.{column_for}
use Rattle.lc_carry.specs.RenamedProofs.{is_covered, are_covered}
use Rattle.lc_carry.proofs.proof.+is_covered.Goals as goal

pub is_covered-returns-then-not-is_step_covered : goal.is_covered-returns-then-not-is_step_covered
is_covered-returns-then-not-is_step_covered t c =
    let to = column_for c.args.columns.now in
    let p = c.args.proof.now in
    sym (ap (is_covered to) (proof_of-proof p) ∙ ap (λ b. b && are_covered to (proofs (proofs_of (out-Proof p).branches.items))) (sym c.is_step_covered.ensures ∙ c.if-not-is_step_covered.true))

pub is_covered-returns : goal.is_covered-returns
is_covered-returns t c =
    let to = column_for c.args.columns.now in
    let p = c.args.proof.now in
    c.are_covered.ensures ∙ ap (λ ps. are_covered to (proofs (proofs_of ps))) c.deref.ensures.value
    ∙ sym (ap (is_covered to) (proof_of-proof p) ∙ ap (λ b. b && are_covered to (proofs (proofs_of (out-Proof p).branches.items))) (sym c.is_step_covered.ensures ∙ c.if-not-is_step_covered.false))
