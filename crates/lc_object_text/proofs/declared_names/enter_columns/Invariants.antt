use Rattle.std.proofs.Common.{◌≡◌, ◌++◌}
use Rattle.lc_sexp.specs.Shown.{rest_of}
use Rattle.lc_reading.specs.TableView.{listed}
use Rattle.lc_object_text.specs.ObjectNames.{names_of_columns}
use Rattle.lc_object_text.specs.Seen.{size}
use Rattle.lc_object_text.proofs.declared_names.enter_columns.Given as goal

-- the names so far, and those of the columns that are left, are all that will be there
abbrev pub invariant-columns : goal.invariant-columns
invariant-columns l = listed l.names ++ names_of_columns (rest_of l.list) ≡ listed l.fn.names ++ names_of_columns (rest_of l.fn.list)

abbrev pub decreases-columns : goal.decreases-columns
decreases-columns l = size l.list
