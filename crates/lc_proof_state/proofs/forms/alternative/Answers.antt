use Rattle.std.proofs.Common.{◌≡◌, IfOk, ap, sym, subst, ◌∙◌, option_map, option_and_then, slice_get}
use Rattle.lc_term.specs.View.{formula_of, formulas_of}
use Rattle.lc_proof_state.proofs.Trees.{alternatives_of}
use Rattle.lc_proof_state.proofs.forms.alternative.Goals as goal

pub returns-in-Or : goal.returns-in-Or
returns-in-Or c =
    let place = c.args.place in
    let all = ap (λ l. slice_get (formulas_of l) place) c.deref.ensures.value ∙ sym (ap (option_and_then (λ fs. slice_get fs place)) (alternatives_of c.args.formula.now c.in-Or.parts c.in-Or.is)) in
    subst (λ x. IfOk c.copied_at.result (λ found. option_map formula_of found ≡ x)) all c.copied_at.ensures
