use Rattle.std.proofs.Common.{◌<◌, ◌++◌, ◌∷◌, [], map, length, ap, sym, ◌∙◌, rules}
use Rattle.std.proofs.lemmas.List.{map-append}
use Rattle.lc_action.specs.Action as A
use Rattle.lc_action.specs.ActionView.{action_of}
use Rattle.lc_outline.specs.Development.{first_system}
use Rattle.lc_outline.specs.DevelopmentView.{development_view}
use Rattle.lc_outline.specs.ColumnNames.{name_at}
use Rattle.lc_outline.proofs.Names.{named_first}
use Rattle.lc_cond_text.proofs.naming.action_name.Goals as goal

pub returns-then-place-len : goal.returns-then-place-len
returns-then-place-len c =
    let items = c.parts.result.now.actions.items in
    let D = development_view c.args.development.now in
    let below : c.args.place < length items = search rules in
    let built_in = A.enter (first_system D) ∷ A.leave (first_system D) ∷ [] in
    c.as_str.ensures.text ∙ named_first (λ (x : A.Action). x.name) action_of items (map (λ (x : A.Action). x.name) built_in) c.args.place c.index.result.now below c.index.ensures
    ∙ ap (λ d. name_at (map (λ (x : A.Action). x.name) d.actions ++ map (λ (x : A.Action). x.name) built_in) c.args.place) c.parts.ensures.shown
    ∙ ap (λ l. name_at l c.args.place) (sym (map-append (λ (x : A.Action). x.name) D.actions built_in))
