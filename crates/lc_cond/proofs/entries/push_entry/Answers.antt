use Rattle.std.proofs.Common.{◌≡◌, ℕ, ◌++◌, map, ap, ap₂, subst}
use Rattle.std.proofs.lemmas.Result.{on_ok_weaker}
use Rattle.lc_term.specs.Said.{after, told}
use Rattle.lc_term.specs.Syntax.{Column, Variable, Base}
use Rattle.lc_table.proofs.Later.{kept_on}
use Rattle.lc_object.specs.View.{operation_of}
use Rattle.lc_action.specs.Action.{enter}
use Rattle.lc_action.specs.ActionView.{first_of}
use Rattle.lc_outline.specs.Development.{invariant_of, asserts_at, first_system}
use Rattle.lc_outline.specs.DevelopmentView.{development_view}
use Rattle.lc_cond.specs.Adding.{HasFormulas, Adds}
use Rattle.lc_cond.specs.Conditions as S
use Rattle.lc_cond.specs.Conditions.{conditions_of, at_entry, range, idle_frame, enter_variables, entered, entry_variables}
use Rattle.lc_cond.proofs.Adding.{formulas_later, formulas_listed, columns_later, columns_listed}
use Rattle.lc_cond.proofs.entries.push_entry.Goals as goal

pub known_idle-requires : goal.known_idle-requires
known_idle-requires c =
    let t0 = c.entered_invariant.new.terms in
    let t1 = c.entered_columns.new.terms in
    let ks = c.in_ok-invariant.invariant.items in
    let invariant = subst (HasFormulas t0 ks) (ap (λ d. invariant_of d) c.parts.ensures.shown) c.in_ok-invariant.ensures.list in
    formulas_listed t1 ks c.deref.result.now _ (formulas_later t0 t1 ks _ invariant c.in_ok-columns.ensures.kept) c.deref.ensures.value

pub push_entered-requires : goal.push_entered-requires
push_entered-requires c =
    let t0 = c.entered_invariant.new.terms in
    let t1 = c.entered_columns.new.terms in
    let t2 = c.known_idle.new.terms in
    let t3 = c.in_range.new.terms in
    let kept13 = kept_on t1 t2 t3 c.in_ok-idle.ensures.kept c.in_ok-ranged.ensures.kept in
    let kept03 = kept_on t0 t1 t3 c.in_ok-columns.ensures.kept kept13 in
    let ks = c.in_ok-invariant.invariant.items in
    let invariant = subst (HasFormulas t0 ks) (ap (λ d. invariant_of d) c.parts.ensures.shown) c.in_ok-invariant.ensures.list in
    record {
      limits = c.requires;
      invariant = formulas_listed t3 ks c.deref-3.result.now _ (formulas_later t0 t3 ks _ invariant kept03) c.deref-3.ensures.value;
      columns = (columns_listed t3 c.in_ok-columns.columns.items c.deref-4.result.now _ (columns_later t1 t3 c.in_ok-columns.columns.items _ c.in_ok-columns.ensures.list kept13) c.deref-4.ensures.value).are;
    }

pub returns-clause-list : goal.returns-clause-list
returns-clause-list c =
    let d = development_view c.args.development.now in
    let o = c.args.operation.0 in
    let body = operation_of c.args.body.now in
    let t1 = c.entered_columns.new.terms in
    let t2 = c.known_idle.new.terms in
    let t3 = c.in_range.new.terms in
    let system = c.system_columns-system.ensures in
    let idle = idle_frame (first_of c.system_columns-system.result) ++ (invariant_of d ++ d.idle) in
    let known = c.in_ok-ranged.ensures.list idle (formulas_listed t2 c.in_ok-idle.idle.items c.deref-2.result.now idle c.in_ok-idle.ensures.list c.deref-2.ensures.value) in
    let listed = formulas_listed t3 c.in_ok-ranged.ranged.items c.in_ok-known.known (range (Variable 1) ++ idle) known c.in_ok-known.ensures in
    let kept13 = kept_on t1 t2 t3 c.in_ok-idle.ensures.kept c.in_ok-ranged.ensures.kept in
    let σ : ℕ → Column = after Base (enter_variables o c.argument_count.result) (enter (first_of c.system_columns-system.result)).updates in
    let columns = columns_listed t3 c.in_ok-columns.columns.items c.deref-4.result.now _ (columns_later t1 t3 c.in_ok-columns.columns.items _ c.in_ok-columns.ensures.list kept13) c.deref-4.ensures.value in
    let stored : σ ≡ entered (first_system d) o body = ap₂ (λ n first. after Base (enter_variables o n) (enter first).updates) c.argument_count.ensures system in
    on_ok_weaker c.push_entered.result
    (λ list. subst (Adds c.args.conditions.now.items c.push_entered.new.terms c.push_entered.new.conditions.items)
    (ap₂ (λ (first : ℕ) (ρ : ℕ → Column). conditions_of (at_entry S.Entry body) (range (Variable 1) ++ (idle_frame first ++ (invariant_of d ++ d.idle))) (map (told ρ (entry_variables body)) (invariant_of d))
    ++ conditions_of (at_entry S.First body) (range (Variable 1) ++ (idle_frame first ++ (invariant_of d ++ d.idle))) (map (told ρ (entry_variables body)) (asserts_at d body.entry))) system stored)
    (list (range (Variable 1) ++ idle) listed σ columns)) c.push_entered.ensures.list
