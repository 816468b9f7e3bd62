use Rattle.std.proofs.Common.{Some, ap, sym, ◌∙◌}
use Rattle.lc_kernel.specs.Table.{negations}
use Rattle.lc_term.specs.Syntax as T
use Rattle.lc_term.specs.View.{formulas_of}
use Rattle.lc_proof_state.proofs.Trees.{formula_of-And, pushed_of}
use Rattle.lc_proof_state.proofs.forms.pushed_inward.Goals as goal

pub returns-in_ok-negated_each-in-Or : goal.returns-in_ok-negated_each-in-Or
returns-in_ok-negated_each-in-Or c =
    let made = c.in_ok-negated_each-in-Or.field-0 in
    let each = c.in_ok-negated_each-in-Or.ensures ∙ ap (λ l. negations (formulas_of l)) c.deref-in-Or.ensures.value in
    ap Some (formula_of-And made ∙ ap (λ l. T.And (T.formulas l)) each) ∙ sym (pushed_of c.args.formula.now c.in-Or.parts c.in-Or.is)
