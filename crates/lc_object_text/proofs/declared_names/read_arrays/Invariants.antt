use Rattle.std.proofs.Common.{◌≡◌, ◌++◌, length, map}
use Rattle.std.specs.Prelude.{codes}
use Rattle.lc_sexp.specs.Shown.{rest_of}
use Rattle.lc_reading.specs.TableView.{listed}
use Rattle.lc_object_text.specs.DeclaredView.{spans_view}
use Rattle.lc_object_text.specs.ObjectNames.{first_text, columns_of_arrays, spans_from}
use Rattle.lc_object_text.specs.Sections.{forms_in}
use Rattle.lc_object_text.specs.Seen.{size}
use Rattle.lc_object_text.proofs.declared_names.read_arrays.Given as goal

-- the arrays so far, and those that are left, are all that will be there
abbrev pub invariant-rows : goal.invariant-rows
invariant-rows l = record {
  columns : listed l.arrays.columns ++ columns_of_arrays (forms_in (codes "array") (rest_of l.list)) ≡ listed l.fn.columns ++ columns_of_arrays (forms_in (codes "array") (rest_of l.fn.list));
  names : listed l.arrays.names ++ map first_text (forms_in (codes "array") (rest_of l.list)) ≡ map first_text (forms_in (codes "array") (rest_of l.fn.list));
  spans : spans_view l.arrays.spans.items ++ spans_from (length (listed l.arrays.columns)) (forms_in (codes "array") (rest_of l.list)) ≡ spans_from (length (listed l.fn.columns)) (forms_in (codes "array") (rest_of l.fn.list));
}

abbrev pub decreases-rows : goal.decreases-rows
decreases-rows l = size l.list
