use Rattle.std.proofs.Common.{length, ◌∙◌}
use Rattle.std.specs.Prelude.{codes}
use Rattle.lc_sexp.specs.Shown.{rest_of}
use Rattle.lc_reading.specs.TableView.{listed}
use Rattle.lc_object_text.specs.DeclaredView.{spans_view}
use Rattle.lc_object_text.specs.ObjectNames.{later}
use Rattle.lc_object_text.proofs.SectionWalk.{array_columns, array_names, array_spans, columns_then}
use Rattle.lc_object_text.proofs.declared_names.read_arrays.Goals as goal

pub rows-preserved : goal.rows-preserved
rows-preserved c =
    let word = codes "array" in
    let old = c.rows.list in
    let new = c.next_form.new.list in
    let parts = c.in-Some.parts in
    let a = c.rows.arrays in
    let more = c.in_ok-more.more in
    let next = columns_then (listed a.columns) (listed more.columns) (later (rest_of parts)) c.in_ok-more.ensures.columns in
    record {
      columns = array_columns word old new parts (listed a.columns) (listed more.columns) c.in-Some.ensures c.in_ok-more.ensures.columns ∙ c.rows.invariant.columns;
      names = array_names word old new parts (listed a.names) (listed more.names) c.in-Some.ensures c.in_ok-more.ensures.names ∙ c.rows.invariant.names;
      spans = array_spans word old new parts (length (listed a.columns)) (length (listed more.columns)) (spans_view a.spans.items) (spans_view more.spans.items) c.in-Some.ensures c.in_ok-more.ensures.spans next
          ∙ c.rows.invariant.spans;
    }
