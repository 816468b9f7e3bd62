use Rattle.std.proofs.Common.{◌≡◌, ◌++◌, map}
use Rattle.std.specs.Prelude.{codes}
use Rattle.lc_sexp.specs.Shown.{rest_of}
use Rattle.lc_reading.specs.Words.{names_in}
use Rattle.lc_reading.specs.TableView.{listed}
use Rattle.lc_object_text.specs.DeclaredView.{calls_view}
use Rattle.lc_object_text.specs.ObjectNames.{first_text, call_of}
use Rattle.lc_object_text.specs.Sections.{some_forms_in}
use Rattle.lc_object_text.specs.Seen.{size, forms_left}
use Rattle.lc_object_text.proofs.declared_names.read_operations.Given as goal

-- the operations so far, and those that are left, are all that will be there
abbrev pub invariant-operations : goal.invariant-operations
invariant-operations l = record {
  names : listed l.names ++ map first_text (forms_left l.some (codes "op") (rest_of l.list)) ≡ map first_text (some_forms_in (codes "op") (rest_of l.fn.list));
  calls : calls_view l.calls.items ++ map call_of (forms_left l.some (codes "op") (rest_of l.list)) ≡ map call_of (some_forms_in (codes "op") (rest_of l.fn.list));
  texts : names_in l.texts.items ≡ listed l.names;
}

abbrev pub decreases-operations : goal.decreases-operations
decreases-operations l = size l.list
