use Rattle.std.proofs.Common.{◌≡◌, [], ◌∷◌, rules}
use Rattle.std.proofs.lemmas.List.{map-append}
use Rattle.lc_kernel.specs.Proofs as S
use Rattle.lc_kernel.specs.View.{step_of, proof_of, proofs_of}
use Rattle.lc_kernel.specs.declared.proof.Proof.{roll-Proof, the_lemmas}
use Rattle.lc_carry.proofs.proof.push_with_step.Goals as goal

pub returns : goal.returns
returns c =
    let s = c.in_ok-step.step in
    let bs = c.args.branches in
    let made : proof_of (roll-Proof (record { step = s; branches = bs })) ≡ S.proof (step_of s) (S.proofs (proofs_of bs.items)) = search (rules, the_lemmas) in
    let same = c.in_ok-step.ensures in
    let split = map-append proof_of c.args.made.now.items (roll-Proof (record { step = s; branches = bs }) ∷ []) in
    search (rules, made, same, split)
