use Rattle.std.proofs.Common.{◌≡◌, rules, ap, sym, ◌∙◌, to_z, of_z, w64}
use Rattle.lc_term.proofs.Views.{formula_of-Forall}
use Rattle.lc_term.specs.Syntax as S
use Rattle.lc_term.specs.View.{formula_of}
use Rattle.lc_proof_state.specs.Instance.{at_number}
use Rattle.lc_proof_state.proofs.instance.+at_number.Goals as goal

pub returns-in_ok-with_number-in-Forall : goal.returns-in_ok-with_number-in-Forall
returns-in_ok-with_number-in-Forall t c =
    let same : to_z w64 (of_z w64 c.args.number) ≡ c.args.number = search rules in
    let seen = ap formula_of c.in-Forall.is ∙ formula_of-Forall c.in-Forall.body ∙ ap (λ x. S.Forall (formula_of x)) (sym c.deref.ensures) in
    (rw same at c.in_ok-with_number-in-Forall.ensures) ∙ sym (ap (at_number c.args.number) seen)
