use Rattle.std.proofs.Common.{map, ap₂, sym, subst, ◌∙◌}
use Rattle.std.proofs.lemmas.Result.{on_ok_weaker}
use Rattle.lc_put.specs.Put.{column_by_number}
use Rattle.lc_term.specs.Replacement.{replace, replacing}
use Rattle.lc_term.specs.Syntax.{Variable}
use Rattle.lc_table.specs.Tables.{AreFormulas}
use Rattle.lc_term.specs.View.{column_of}
use Rattle.lc_cond.specs.Adding.{Adds}
use Rattle.lc_cond.specs.Conditions.{conditions_of, range}
use Rattle.lc_cond.specs.Heads.{head_of}
use Rattle.lc_cond.proofs.Adding.{formulas_later, formulas_listed}
use Rattle.lc_cond.proofs.start.push_init_idle.Goals as goal

pub push_all_told-requires : goal.push_all_told-requires
push_all_told-requires c = subst (AreFormulas c.entered.new.terms) (sym c.deref.ensures.value) c.in_ok-idle.ensures.list.are

pub returns-clause-list : goal.returns-clause-list
returns-clause-list c =
    let t2 = c.entered.new.terms in
    let now = c.push_all_told.new.terms in
    let r = replacing (column_by_number (map column_of c.args.columns.now)) Variable in
    let known = formulas_listed t2 c.in_ok-ranges.ranges.items c.in_ok-known.known (range (Variable 1)) (formulas_later c.range.new.terms t2 c.in_ok-ranges.ranges.items _ c.in_ok-ranges.ensures.list c.in_ok-idle.ensures.kept) c.in_ok-known.ensures in
    let goals = (formulas_listed t2 c.in_ok-idle.idle.items c.deref.result.now _ c.in_ok-idle.ensures.list c.deref.ensures.value).trees ∙ c.idle_of.ensures in
    on_ok_weaker c.push_all_told.result
    (λ list. subst (Adds c.args.conditions.now.items now c.push_all_told.new.conditions.items)
    (ap₂ (λ h gs. conditions_of (head_of h) (range (Variable 1)) (map (replace r) gs)) c.at_start-head.ensures goals)
    (list (range (Variable 1)) known)) c.push_all_told.ensures.list
