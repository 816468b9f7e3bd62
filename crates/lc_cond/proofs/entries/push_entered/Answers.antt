use Rattle.std.proofs.Common.{◌++◌, map, ap, ap₂, sym, subst, ◌∙◌}
use Rattle.std.proofs.lemmas.Result.{on_ok_weaker}
use Rattle.lc_term.specs.Said.{told}
use Rattle.lc_table.specs.Tables.{AreFormulas}
use Rattle.lc_put.proofs.ByNumber.{are_columns_later}
use Rattle.lc_table.proofs.Later.{kept_on}
use Rattle.lc_object.specs.View.{operation_of}
use Rattle.lc_outline.specs.Development.{invariant_of, asserts_at}
use Rattle.lc_outline.specs.DevelopmentView.{development_view}
use Rattle.lc_cond.specs.Adding.{HasFormulas, Adds}
use Rattle.lc_cond.specs.Conditions as S
use Rattle.lc_cond.specs.Conditions.{conditions_of}
use Rattle.lc_cond.specs.Heads.{head_of}
use Rattle.lc_cond.specs.declared.condition.Kind.TheVariants as K
use Rattle.lc_cond.proofs.Adding.{formulas_later, formulas_listed, terms_later, terms_listed, columns_later}
use Rattle.lc_cond.proofs.Entered.{entry_head}
use Rattle.lc_cond.proofs.entries.push_entered.Goals as goal

pub push_both_told-requires-clause-columns : goal.push_both_told-requires-clause-columns
push_both_told-requires-clause-columns c =
    are_columns_later c.args.terms.now c.entered.new.terms c.args.columns.now c.requires.columns (kept_on c.args.terms.now c.entered_variables.new.terms c.entered.new.terms c.in_ok-variables.ensures.kept c.in_ok-first.ensures.kept)

pub push_both_told-requires-clause-variables : goal.push_both_told-requires-clause-variables
push_both_told-requires-clause-variables c =
    (terms_listed c.entered.new.terms c.in_ok-variables.variables.items c.deref.result.now _
    (terms_later c.entered_variables.new.terms c.entered.new.terms c.in_ok-variables.variables.items _ c.in_ok-variables.ensures.list c.in_ok-first.ensures.kept) c.deref.ensures.value).are

pub push_both_told-requires-clause-first : goal.push_both_told-requires-clause-first
push_both_told-requires-clause-first c =
    let t0 = c.args.terms.now in
    let t1 = c.entered_variables.new.terms in
    let t2 = c.entered.new.terms in
    (formulas_later t0 t2 c.args.invariant.now _ c.requires.invariant (kept_on t0 t1 t2 c.in_ok-variables.ensures.kept c.in_ok-first.ensures.kept)).are

pub push_both_told-requires-clause-second : goal.push_both_told-requires-clause-second
push_both_told-requires-clause-second c = subst (AreFormulas c.entered.new.terms) (sym c.deref-2.ensures.value) c.in_ok-first.ensures.list.are

pub returns-clause-list : goal.returns-clause-list
returns-clause-list c =
    let d = development_view c.args.development.now in
    let o = operation_of c.args.body.now in
    let t0 = c.args.terms.now in
    let t1 = c.entered_variables.new.terms in
    let t2 = c.entered.new.terms in
    let kept = kept_on t0 t1 t2 c.in_ok-variables.ensures.kept c.in_ok-first.ensures.kept in
    let variables = terms_listed t2 c.in_ok-variables.variables.items c.deref.result.now _ (terms_later t1 t2 c.in_ok-variables.variables.items _ c.in_ok-variables.ensures.list c.in_ok-first.ensures.kept) c.deref.ensures.value in
    let first = formulas_listed t2 c.in_ok-first.first.items c.deref-2.result.now _ c.in_ok-first.ensures.list c.deref-2.ensures.value in
    on_ok_weaker c.push_both_told.result
    (λ list hs has σ columns. subst (Adds c.args.conditions.now.items c.push_both_told.new.terms c.push_both_told.new.conditions.items)
    (ap₂ (λ h k. conditions_of h hs (map (told σ (S.entry_variables o)) (invariant_of d)) ++ conditions_of k hs (map (told σ (S.entry_variables o)) (asserts_at d o.entry)))
    (ap head_of c.at_entry.ensures ∙ entry_head K.Entry c.args.body.now c.entry_count-count.result c.entry_count-count.ensures)
    (ap head_of c.at_entry-2.ensures ∙ entry_head K.First c.args.body.now c.entry_count-count.result c.entry_count-count.ensures))
    (list σ (S.entry_variables o) hs (invariant_of d) (asserts_at d o.entry) (columns_later t0 t2 c.args.columns.now σ columns kept) variables
    (formulas_later t0 t2 c.args.known.now hs has kept)
    (formulas_later t0 t2 c.args.invariant.now _ c.requires.invariant kept)
    (subst (HasFormulas t2 c.deref-2.result.now) c.asserts_at.ensures first))) c.push_both_told.ensures.list
