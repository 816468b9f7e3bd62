use Rattle.std.proofs.Common.{◌≡◌, ℕ, ◌∷◌, [], pos, map, ap, subst, ◌∙◌}
use Rattle.std.proofs.lemmas.Result.{on_ok_weaker}
use Rattle.lc_put.specs.Put.{column_by_number}
use Rattle.lc_term.specs.Replacement.{replace, replacing}
use Rattle.lc_term.specs.Syntax.{Column, Number, Variable, Le}
use Rattle.lc_term.specs.View.{column_of}
use Rattle.lc_tie.specs.Tie.{start_column}
use Rattle.lc_outline.specs.Development.{invariant_of, start_numbers}
use Rattle.lc_outline.specs.DevelopmentView.{development_view}
use Rattle.lc_cond.specs.Adding.{Adds}
use Rattle.lc_cond.specs.Conditions as S
use Rattle.lc_cond.specs.Conditions.{conditions_of, at_start, range}
use Rattle.lc_cond.proofs.Adding.{adds_on}
use Rattle.lc_cond.proofs.start.push_start.Goals as goal

pub returns-clause-list : goal.returns-clause-list
returns-clause-list c =
    let d = development_view c.args.development.now in
    let t1 = c.push_init.new.terms in
    let t2 = c.push_init_idle.new.terms in
    let stands : column_by_number (map column_of c.in_ok-columns.columns.items) ≡ start_column (start_numbers d) =
    (λ i k. c.in_ok-columns.ensures.each k i) ∙ ap start_column (c.parts.ensures.initial ∙ ap start_numbers c.parts.ensures.shown) in
    let first : column_by_number (map column_of c.deref.result.now) ≡ start_column (start_numbers d) = ap (λ l. column_by_number (map column_of l)) c.deref.ensures.value ∙ stands in
    let second : column_by_number (map column_of c.deref-2.result.now) ≡ start_column (start_numbers d) = ap (λ l. column_by_number (map column_of l)) c.deref-2.ensures.value ∙ stands in
    on_ok_weaker c.push_init_idle.result
    (λ list. adds_on c.args.conditions.now.items c.push_init.new.conditions.items c.push_init_idle.new.conditions.items t1 t2 _ _
    (subst (λ (σ : ℕ → Column). Adds c.args.conditions.now.items t1 c.push_init.new.conditions.items (conditions_of (at_start S.Init 1) (Le (Number (pos 0)) (Variable 0) ∷ []) (map (replace (replacing σ Variable)) (invariant_of d)))) first
    c.in_ok-push_init.ensures.list) c.push_init_idle.ensures.kept
    (subst (λ (σ : ℕ → Column). Adds c.push_init.new.conditions.items t2 c.push_init_idle.new.conditions.items (conditions_of (at_start S.InitIdle 2) (range (Variable 1)) (map (replace (replacing σ Variable)) d.idle))) second list))
    c.push_init_idle.ensures.list
