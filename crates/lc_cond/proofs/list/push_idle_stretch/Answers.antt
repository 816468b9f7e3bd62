use Rattle.std.proofs.Common.{◌+◌, ◌*◌, ◌≤◌, length, None, sym, subst}
use Rattle.std.proofs.lemmas.Result.{on_ok_weaker}
use Rattle.lc_base.specs.Limits.{condition_limit}
use Rattle.lc_term.specs.Lists.{Every}
use Rattle.lc_term.specs.View.{formula_of}
use Rattle.lc_table.specs.Tables.{AreFormulas}
use Rattle.lc_outline.specs.DevelopmentView.{development_view}
use Rattle.lc_outline.specs.Resolved.{IsBelow}
use Rattle.lc_cond.specs.Adding.{Adds}
use Rattle.lc_cond.specs.Conditions.{idle_frame}
use Rattle.lc_cond.specs.Crossings.{code_variable_limit}
use Rattle.lc_cond.specs.Stretches.{IsWithin, stable_stretch}
use Rattle.lc_cond.proofs.Adding.{formulas_listed}
use Rattle.lc_cond.proofs.Few.{seen_length, idle_stays_few, idle_below}
use Rattle.lc_cond.proofs.list.push_idle_stretch.Goals as goal

pub push_stable-requires-clause-few : goal.push_stable-requires-clause-few
push_stable-requires-clause-few c =
    let D = development_view c.args.development.now in
    subst (λ m. m * (length D.actions + 2) ≤ condition_limit) (sym (seen_length formula_of c.idle_of.result.now D.idle c.idle_of.ensures))
    (idle_stays_few D c.args.development.now.resolved c.args.development.now.limited)

pub push_stable-requires-clause-asked : goal.push_stable-requires-clause-asked
push_stable-requires-clause-asked c =
    subst (λ m. IsWithin m c.args.asked) (sym (seen_length formula_of c.idle_of.result.now (development_view c.args.development.now).idle c.idle_of.ensures)) c.requires

pub push_stable-requires-clause-below : goal.push_stable-requires-clause-below
push_stable-requires-clause-below c =
    subst (Every (IsBelow code_variable_limit)) (sym c.idle_of.ensures) (idle_below (development_view c.args.development.now) c.args.development.now.resolved c.args.development.now.limited)

pub push_stable-requires-clause-frame : goal.push_stable-requires-clause-frame
push_stable-requires-clause-frame c = subst (AreFormulas c.idle_frame.new.terms) (sym c.deref.ensures.value) c.in_ok-frame.ensures.list.are

pub returns-clause-list : goal.returns-clause-list
returns-clause-list c =
    on_ok_weaker c.push_stable.result
    (λ list. subst (Adds c.args.conditions.now.items c.push_stable.new.terms c.push_stable.new.conditions.items)
    (λ i. stable_stretch (development_view c.args.development.now) None 2 (idle_frame (c.system_columns-system.ensures i)) (c.idle_of.ensures i) c.args.asked)
    (list _ (formulas_listed c.idle_frame.new.terms c.in_ok-frame.frame.items c.deref.result.now _ c.in_ok-frame.ensures.list c.deref.ensures.value))) c.push_stable.ensures.list
