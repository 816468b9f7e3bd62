use Rattle.std.proofs.Common.{◌<◌, length, ap, map, ◌∙◌, rules}
use Rattle.lc_object.specs.Syntax as O
use Rattle.lc_object.specs.View.{point_of}
use Rattle.lc_outline.proofs.Names.{named_alone}
use Rattle.lc_outline.specs.ColumnNames.{name_at}
use Rattle.lc_outline.specs.Development.{Development}
use Rattle.lc_trace.specs.Lines.{point_name}
use Rattle.lc_trace.proofs.lists.point_name.Goals as goal

pub returns-then-place-len : goal.returns-then-place-len
returns-then-place-len c =
    let k = c.args.point.0 in
    let items = c.parts-2.result.now.points.items in
    let below : k < length items = search rules in
    c.as_str.ensures.text ∙ named_alone (λ (q : O.Point). q.name) point_of items k c.index.result.now below c.index.ensures
    ∙ ap (λ (o : O.Object). name_at (map (λ (q : O.Point). q.name) o.points) k) c.parts-2.ensures.shown
    ∙ ap (λ (D : Development). point_name D k) c.parts.ensures.shown
