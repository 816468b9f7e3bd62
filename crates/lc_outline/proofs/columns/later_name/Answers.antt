use Rattle.std.proofs.Common.{◌<◌, ◌++◌, map, length, ap, ◌∙◌, rules}
use Rattle.lc_term.specs.SystemColumns.{system_columns}
use Rattle.lc_seq.specs.Specification as Q
use Rattle.lc_object.specs.Syntax as O
use Rattle.lc_object.specs.View.{column_view}
use Rattle.lc_outline.specs.PartsView.{parts_view}
use Rattle.lc_outline.specs.ColumnNames.{name_at}
use Rattle.lc_outline.proofs.Names.{named_first}
use Rattle.lc_outline.proofs.columns.later_name.Goals as goal

pub returns-then-place-len : goal.returns-then-place-len
returns-then-place-len c =
    let items = c.parts.result.now.concretes.items in
    let rest = map (λ (x : Q.Column). x.name) (parts_view c.args.parts.now).auxiliaries ++ system_columns in
    let below : c.args.place < length items = search rules in
    c.as_str.ensures.text ∙ named_first (λ (x : O.Column). x.name) column_view items rest c.args.place c.index.result.now below c.index.ensures
    ∙ ap (λ o. name_at (map (λ (x : O.Column). x.name) o.concretes ++ rest) c.args.place) c.parts.ensures.shown
