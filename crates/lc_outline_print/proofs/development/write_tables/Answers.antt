use Rattle.std.proofs.Common.{◌++◌, ◌∙◌, ap, map, string_bytes}
use Rattle.std.proofs.lemmas.Result.{on_ok_weaker}
use Rattle.lc_action.specs.ActionView.{action_of}
use Rattle.lc_object.specs.Syntax.{Object}
use Rattle.lc_object.specs.View.{array_of, parts_of}
use Rattle.lc_outline.specs.PartsView.{parts_view}
use Rattle.lc_sexp.specs.Printed.{printed_others}
use Rattle.lc_sexp.specs.Trees.{row}
use Rattle.lc_outline_print.specs.Beside.{action_tree}
use Rattle.lc_outline_print.specs.Developments.{auxiliary_tree}
use Rattle.lc_outline.specs.ColumnNames.{column_names}
use Rattle.lc_outline_print.specs.Objects.{array_tree}
use Rattle.lc_outline_print.proofs.Forms.{tables_text}
use Rattle.lc_outline_print.proofs.development.write_tables.Goals as goal

pub returns : goal.returns
returns c =
    let D = parts_view c.args.parts.now in
    let old = string_bytes c.args.out.now in
    let before = string_bytes c.write_auxiliaries.new.out in
    on_ok_weaker c.write_actions.result
    (λ is. tables_text (row (map (array_tree D.object) D.object.arrays)) (auxiliary_tree D) (row (map (action_tree (column_names D)) D.actions)) old
    (string_bytes c.write_arrays.new.out) before (string_bytes c.write_actions.new.out)
    (c.in_ok-write_arrays.ensures
    ∙ ap (λ arrays. old ++ printed_others (row (map (array_tree (parts_of c.parts-object.result.now)) (map array_of arrays)))) c.deref.ensures.value
    ∙ ap (λ (o : Object). old ++ printed_others (row (map (array_tree o) o.arrays))) c.parts-object.ensures.shown)
    c.in_ok-write_auxiliaries.ensures
    (is ∙ ap (λ names. before ++ printed_others (row (map (action_tree names) (map action_of c.deref-2.result.now)))) c.requires
    ∙ ap (λ actions. before ++ printed_others (row (map (action_tree (column_names D)) (map action_of actions)))) c.deref-2.ensures.value))
    c.write_actions.ensures
