use Rattle.std.proofs.Common.{ap, ap₂, sym, subst, ◌∙◌}
use Rattle.std.proofs.lemmas.Result.{on_ok_weaker}
use Rattle.lc_put.specs.PutNumbers.{AreColumns}
use Rattle.lc_term.specs.Syntax.{Variable}
use Rattle.lc_term.specs.SystemColumns.{column_count}
use Rattle.lc_action.specs.Action.{post_columns}
use Rattle.lc_cond.specs.Adding.{Adds}
use Rattle.lc_cond.specs.Conditions.{OfColumn, column_conditions}
use Rattle.lc_cond.specs.Heads.{MakesOne, condition_made}
use Rattle.lc_cond.specs.declared.condition.Which.TheVariants.{Alone}
use Rattle.lc_cond.proofs.Adding.{columns_listed, adds_on}
use Rattle.lc_cond.proofs.matching.push_action.Goals as goal

pub push_columns-requires-clause-action : goal.push_columns-requires-clause-action
push_columns-requires-clause-action c = subst (AreColumns c.args.terms.now) (sym c.deref.ensures.value) c.requires.acting

pub returns-clause-list : goal.returns-clause-list
returns-clause-list c =
    let t0 = c.args.terms.now in
    let t1 = c.push_columns.new.terms in
    let one = subst (λ h. MakesOne h Alone c.args.outcome.known.now c.args.acting.now.guard c.args.conditions.now.items c.push_one.new.conditions.items) c.on_path-head.ensures c.in_ok-push_one.ensures in
    let count = c.column_count-count.ensures ∙ ap column_count c.requires.outcome.scene.system in
    on_ok_weaker c.push_columns.result
    (λ list ts a guard action hs has σ columns. adds_on c.args.conditions.now.items c.push_one.new.conditions.items c.push_columns.new.conditions.items t0 t1 _ _
    (one t0 hs _ has guard) c.push_columns.ensures.kept
    (subst (Adds c.push_one.new.conditions.items t1 c.push_columns.new.conditions.items)
    (ap₂ (λ h n. column_conditions (λ k goal. condition_made h (OfColumn k) hs goal) 0 n σ (post_columns a (Variable 1) ts)) c.on_path-head-2.ensures count)
    (list hs has σ columns (post_columns a (Variable 1) ts) (columns_listed t0 c.args.acting.now.columns.items c.deref.result.now _ action c.deref.ensures.value)))) c.push_columns.ensures.list
