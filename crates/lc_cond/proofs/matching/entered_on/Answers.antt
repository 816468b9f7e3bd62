use Rattle.std.proofs.Common.{map, ap, subst}
use Rattle.lc_term.specs.Syntax.{Variable}
use Rattle.lc_table.specs.Tables.{HasFormula}
use Rattle.lc_term.specs.View.{term_of}
use Rattle.lc_action.specs.Action.{guard_for, post_columns}
use Rattle.lc_action.specs.ActionView.{action_of}
use Rattle.lc_outline.specs.DevelopmentView.{development_view, on_of}
use Rattle.lc_cond.specs.Adding.{HasColumns}
use Rattle.lc_cond.proofs.Scening.{acting_found}
use Rattle.lc_cond.proofs.matching.entered_on.Goals as goal

pub returns-clause-acting : goal.returns-clause-acting
returns-clause-acting c =
    let x = c.in-Some.on in
    let a = action_of c.in-Some-action_at.action.now in
    let k = c.in_ok-entered_action.field-0 in
    let now = c.entered_action.new.terms in
    let there = ap (map term_of) c.deref.ensures.value in (
      ((on_of x.now).arguments, a),
      acting_found (development_view c.args.development.now) c.args.on x a c.in-Some.is c.in-Some-action_at.ensures,
      subst (λ ts. HasFormula now k.guard (guard_for a (Variable 1) ts)) there c.in_ok-entered_action.ensures.guard,
      subst (λ ts. HasColumns now k.columns.items (post_columns a (Variable 1) ts)) there c.in_ok-entered_action.ensures.columns,
    )
