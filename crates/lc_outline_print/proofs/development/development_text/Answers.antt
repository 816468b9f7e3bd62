use Rattle.std.proofs.Common.{◌++◌, string_bytes, ap, ◌∙◌}
use Rattle.lc_outline.specs.PartsView.{parts_view}
use Rattle.lc_reading.specs.Words.{names_in}
use Rattle.lc_sexp.specs.Printed.{printed_tree}
use Rattle.lc_outline_print.specs.Developments.{object_tree, development_printed}
use Rattle.lc_outline.specs.ColumnNames.{column_names}
use Rattle.lc_outline_print.specs.Specifications.{specification_tree}
use Rattle.lc_outline_print.proofs.Forms.{lines_text}
use Rattle.lc_outline_print.proofs.development.development_text.Goals as goal

pub returns : goal.returns
returns c =
    let E = parts_view c.parts-parts.result.now in
    let columns = ap names_in c.deref.ensures.value ∙ c.in_ok-columns.ensures in
    ap (λ v. v.items) c.into_bytes.ensures.value
    ∙ lines_text (specification_tree (column_names E) E.specification) (object_tree E) _ _ _ _ _ c.new-out.ensures.bytes
    (c.in_ok-write_specification.ensures ∙ ap (λ names. string_bytes c.new-out.result ++ printed_tree (specification_tree names E.specification)) columns)
    c.in_ok-push_str.ensures.bytes c.in_ok-write_object.ensures c.in_ok-push_str-2.ensures.bytes
    ∙ ap development_printed c.parts-parts.ensures.shown
