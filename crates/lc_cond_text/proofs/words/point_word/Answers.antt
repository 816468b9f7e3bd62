use Rattle.std.proofs.Common.{◌<◌, map, length, ap, sym, ◌∙◌, rules, option_map}
use Rattle.lc_cond_text.specs.ConditionText.{or_hyphen, point_names}
use Rattle.lc_outline.proofs.Names.{named_alone}
use Rattle.lc_outline.specs.ColumnNames.{name_at}
use Rattle.lc_object.specs.Syntax as O
use Rattle.lc_object.specs.View.{point_of}
use Rattle.lc_outline.specs.DevelopmentView.{development_view}
use Rattle.lc_cond_text.proofs.words.point_word.Goals as goal

pub returns-then-place-len : goal.returns-then-place-len
returns-then-place-len c =
    let items = c.parts-2.result.now.points.items in
    let place = c.in-Some.point.0 in
    let below : place < length items = search rules in
    c.as_str.ensures.text ∙ named_alone (λ (x : O.Point). x.name) point_of items place c.index.result.now below c.index.ensures
    ∙ ap (λ o. name_at (map (λ (x : O.Point). x.name) o.points) place) c.parts-2.ensures.shown
    ∙ ap (λ d. name_at (map (λ (x : O.Point). x.name) d.object.points) place) c.parts.ensures.shown
    ∙ ap (λ p. or_hyphen (name_at (point_names (development_view c.args.development.now))) (option_map (λ q. q.0) p)) (sym c.in-Some.is)
