use Rattle.std.proofs.Common.{◌≡◌, ◌≤◌, length, map, ap, ◌∙◌}
use Rattle.std.proofs.lemmas.List.{take_all}
use Rattle.lc_carry.proofs.Between.{number_in, same_columns}
use Rattle.lc_outline.specs.ColumnNames.{column_names}
use Rattle.lc_outline.specs.DevelopmentView.{development_view}
use Rattle.lc_reading.specs.Listed.{place_of}
use Rattle.lc_reading.specs.TableView.{listed}
use Rattle.lc_reading.specs.Words.{names_in}
use Rattle.lc_carry.proofs.columns.columns_between.Goals as goal

pub returns : goal.returns
returns c =
    let D = development_view c.args.old.now in
    let E = development_view c.args.new.now in
    let items = c.deref-name-items.result.now in
    let i = c.loop-name.name-index in
    let end : length items ≤ i = c.loop-name-test.false in
    let names : names_in items ≡ column_names D = ap names_in c.deref-name-items.ensures.value ∙ c.in_ok-names.ensures ∙ ap column_names c.parts.ensures.shown in
    let others : listed c.in_ok-table.table ≡ column_names E = c.in_ok-table.ensures ∙ ap names_in c.deref.ensures.value ∙ c.in_ok-others.ensures ∙ ap column_names c.parts-2.ensures.shown in
    let columns : map number_in c.loop-name.columns.items ≡ map (place_of (column_names E)) (column_names D) =
    c.loop-name.invariant
    ∙ ap (λ l. map (place_of (listed c.in_ok-table.table)) (names_in l)) (take_all i items end)
    ∙ ap (map (place_of (listed c.in_ok-table.table))) names
    ∙ ap (λ l. map (place_of l) (column_names D)) others in
    same_columns c.loop-name.columns.items (column_names D) (place_of (column_names E)) columns
