use Rattle.std.proofs.Common.{◌≡◌, IfOk, ap, sym, subst, ◌∙◌, option_map, option_and_then, slice_get}
use Rattle.lc_kernel.specs.Table.{negations}
use Rattle.lc_term.specs.View.{formula_of, formulas_of}
use Rattle.lc_proof_state.proofs.Trees.{failing_of}
use Rattle.lc_proof_state.proofs.forms.failing_at.Goals as goal

pub returns-in-And : goal.returns-in-And
returns-in-And c =
    let place = c.args.place in
    let all = ap (λ l. slice_get (negations (formulas_of l)) place) c.deref.ensures.value ∙ sym (ap (option_and_then (λ fs. slice_get fs place)) (failing_of c.args.formula.now c.in-And.parts c.in-And.is)) in
    subst (λ x. IfOk c.negated_at.result (λ found. option_map formula_of found ≡ x)) all c.negated_at.ensures
