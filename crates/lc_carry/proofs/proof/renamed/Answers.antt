use Rattle.std.proofs.Common.{◌≡◌, rules, ap, ap₂, ◌∙◌, sym}
use Rattle.std.specs.Prelude.{map}
use Rattle.lc_kernel.specs.Proofs as S
use Rattle.lc_kernel.specs.View.{step_of, proof_of, proofs_of}
use Rattle.lc_kernel.specs.declared.proof.Proof.{roll-Proof, the_lemmas}
use Rattle.lc_carry.proofs.Branches.{renamed-proof}
use Rattle.lc_carry.specs.Renaming.{column_for}
use Rattle.lc_carry.specs.RenamedProofs.{renamed}
use Rattle.lc_carry.proofs.proof.renamed.Goals as goal

pub returns : goal.returns
returns c =
    let to = column_for c.args.columns.now in
    let s = c.in_ok-step.step in
    let bs = c.in_ok-branches.branches in
    let p = c.args.proof.now in
    let made : proof_of (roll-Proof (record { step = s; branches = bs })) ≡ S.proof (step_of s) (S.proofs (proofs_of bs.items)) = search (rules, the_lemmas) in
    let parts = ap₂ (λ x ps. S.proof x (S.proofs ps)) c.in_ok-step.ensures (c.in_ok-branches.ensures ∙ ap (λ ps. map (renamed to) (proofs_of ps)) c.deref.ensures.value) in
    made ∙ parts ∙ sym (renamed-proof to p)
