use Rattle.std.proofs.Common.{◌+◌, ◌*◌, ◌≤◌, length, Some, sym, subst}
use Rattle.std.proofs.lemmas.Result.{on_ok_weaker}
use Rattle.lc_base.specs.Limits.{condition_limit}
use Rattle.lc_term.specs.Lists.{Every}
use Rattle.lc_term.specs.View.{formula_of}
use Rattle.lc_table.specs.Tables.{AreFormulas}
use Rattle.lc_object.specs.View.{operation_of}
use Rattle.lc_outline.specs.Development.{asserts_at}
use Rattle.lc_outline.specs.DevelopmentView.{development_view}
use Rattle.lc_outline.specs.Resolved.{IsBelow}
use Rattle.lc_cond.specs.Adding.{Adds}
use Rattle.lc_cond.specs.Conditions.{body_frame}
use Rattle.lc_cond.specs.Crossings.{code_variable_limit}
use Rattle.lc_cond.specs.Stretches.{IsWithin, stable_stretch}
use Rattle.lc_cond.proofs.Adding.{formulas_listed}
use Rattle.lc_cond.proofs.Few.{seen_length, variables_few, asserts_stay_few, asserts_below}
use Rattle.lc_cond.proofs.list.push_stay.Goals as goal

pub push_stable-requires-clause-variables : goal.push_stable-requires-clause-variables
push_stable-requires-clause-variables c = subst (λ n. n ≤ code_variable_limit) (sym c.variable_count-count.ensures) (variables_few (operation_of c.args.body.now) c.requires.limits)

pub push_stable-requires-clause-few : goal.push_stable-requires-clause-few
push_stable-requires-clause-few c =
    let D = development_view c.args.development.now in
    let k = c.args.number.0 in
    subst (λ m. m * (length D.actions + 2) ≤ condition_limit) (sym (seen_length formula_of c.asserts_at.result.now (asserts_at D k) c.asserts_at.ensures))
    (asserts_stay_few D c.args.development.now.resolved c.args.development.now.limited k)

pub push_stable-requires-clause-asked : goal.push_stable-requires-clause-asked
push_stable-requires-clause-asked c =
    let D = development_view c.args.development.now in
    subst (λ m. IsWithin m c.args.asked) (sym (seen_length formula_of c.asserts_at.result.now (asserts_at D c.args.number.0) c.asserts_at.ensures)) c.requires.asked

pub push_stable-requires-clause-below : goal.push_stable-requires-clause-below
push_stable-requires-clause-below c =
    let D = development_view c.args.development.now in
    subst (Every (IsBelow code_variable_limit)) (sym c.asserts_at.ensures) (asserts_below D c.args.development.now.resolved c.args.development.now.limited c.args.number.0)

pub push_stable-requires-clause-frame : goal.push_stable-requires-clause-frame
push_stable-requires-clause-frame c = subst (AreFormulas c.body_frame.new.terms) (sym c.deref.ensures.value) c.in_ok-frame.ensures.list.are

pub returns-clause-list : goal.returns-clause-list
returns-clause-list c =
    on_ok_weaker c.push_stable.result
    (λ list. subst (Adds c.args.conditions.now.items c.push_stable.new.terms c.push_stable.new.conditions.items)
    (λ i. stable_stretch (development_view c.args.development.now) (Some c.args.number.0) (c.variable_count-count.ensures i) (body_frame (c.system_columns-system.ensures i) c.args.operation.0 (c.argument_count.ensures i)) (c.asserts_at.ensures i) c.args.asked)
    (list _ (formulas_listed c.body_frame.new.terms c.in_ok-frame.frame.items c.deref.result.now _ c.in_ok-frame.ensures.list c.deref.ensures.value))) c.push_stable.ensures.list
