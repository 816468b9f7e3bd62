use Rattle.std.proofs.Common.{◌≡◌, rules, ap, sym, ◌∙◌, to_z, of_z, w64}
use Rattle.lc_term.specs.View.{formula_of}
use Rattle.lc_proof_state.specs.Instance.{at_number, instance_at}
use Rattle.lc_proof_state.proofs.Instances.{instance_at-more}
use Rattle.lc_proof_state.proofs.instance.instance_of.Goals as goal

pub loop-witness-preserved : goal.loop-witness-preserved
loop-witness-preserved c =
    let n = c.unwrap_or-number.result in
    let f = formula_of c.args.goal.now in
    let same : to_z w64 (of_z w64 n) ≡ n = search rules in
    let put : formula_of c.in-Some.goal ≡ at_number n (formula_of c.loop-witness.instance.goal) = rw same at (rw c.in-Some.is at c.in_ok-goal.ensures) in
    put ∙ ap (at_number n) c.loop-witness.invariant ∙ sym (instance_at-more c.loop-witness.instance.numbers.items n f) ∙
    sym (ap (λ xs. instance_at xs f) (rw same at c.in_ok-push.ensures.items))
