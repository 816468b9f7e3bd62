use Rattle.std.proofs.Common.{[], ◌∷◌, rules}
use Rattle.std.proofs.lemmas.List.{map-append}
use Rattle.lc_kernel.specs.View.{proof_of}
use Rattle.lc_kernel.specs.declared.proof.Proof.{roll-Proof}
use Rattle.lc_kernel.proofs.Checked.{proof_of-made}
use Rattle.lc_kernel.proofs.copying.push_with_step.Goals as goal

pub returns : goal.returns
returns c =
    let made = proof_of-made c.in_ok-step.step c.args.branches in
    let same = c.in_ok-step.ensures in
    let split = map-append proof_of c.args.copies.now.items (roll-Proof (record { step = c.in_ok-step.step; branches = c.args.branches }) ∷ []) in
    search (rules, made, same, split)
