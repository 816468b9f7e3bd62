use Rattle.std.proofs.Common.{◌<◌, map, length, ap, ◌∙◌, rules}
use Rattle.lc_object.specs.Syntax as O
use Rattle.lc_object.specs.View.{point_of}
use Rattle.lc_outline.specs.ColumnNames.{name_at}
use Rattle.lc_outline.proofs.Names.{named_alone}
use Rattle.lc_cond_text.proofs.naming.point_name.Goals as goal

pub returns-then-place-len : goal.returns-then-place-len
returns-then-place-len c =
    let items = c.parts-2.result.now.points.items in
    let below : c.args.point.0 < length items = search rules in
    c.as_str.ensures.text ∙ named_alone (λ (x : O.Point). x.name) point_of items c.args.point.0 c.index.result.now below c.index.ensures
    ∙ ap (λ o. name_at (map (λ (x : O.Point). x.name) o.points) c.args.point.0) c.parts-2.ensures.shown
    ∙ ap (λ d. name_at (map (λ (x : O.Point). x.name) d.object.points) c.args.point.0) c.parts.ensures.shown
