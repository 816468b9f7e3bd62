use Rattle.std.proofs.Common.{◌++◌, map, ap, sym, ◌∙◌}
use Rattle.lc_term.specs.SystemColumns.{system_columns}
use Rattle.lc_seq.specs.Specification as Q
use Rattle.lc_seq.specs.SpecView.{column_of}
use Rattle.lc_object.specs.Syntax as O
use Rattle.lc_outline.specs.PartsView.{parts_view}
use Rattle.lc_outline.specs.ColumnNames.{name_at}
use Rattle.lc_outline.proofs.Names.{named_first}
use Rattle.lc_outline.proofs.columns.column_name.Goals as goal

pub returns-then-place-abstracts : goal.returns-then-place-abstracts
returns-then-place-abstracts c =
    let D = parts_view c.args.parts.now in
    let rest = map (λ (x : O.Column). x.name) D.object.concretes ++ (map (λ (x : Q.Column). x.name) D.auxiliaries ++ system_columns) in
    let k = c.args.column.0 in
    let x = c.index-abstracts-place.result in
    c.as_str.ensures.text ∙ ap (λ y. (column_of y).name) (sym c.index-abstracts-place.is) ∙ named_first (λ (y : Q.Column). y.name) column_of c.columns-abstracts.result.now rest k x c.if-place-abstracts.true c.index-abstracts-place.is
    ∙ ap (λ cs. name_at (map (λ (y : Q.Column). y.name) cs ++ rest) k) c.columns-abstracts.ensures
