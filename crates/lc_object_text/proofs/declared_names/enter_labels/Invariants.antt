use Rattle.std.proofs.Common.{◌≡◌, ◌++◌, map}
use Rattle.std.specs.Prelude.{codes}
use Rattle.lc_sexp.specs.Shown.{rest_of}
use Rattle.lc_reading.specs.TableView.{listed}
use Rattle.lc_object_text.specs.ObjectNames.{first_text}
use Rattle.lc_object_text.specs.Sections.{some_forms_in}
use Rattle.lc_object_text.specs.Seen.{size, forms_left}
use Rattle.lc_object_text.proofs.declared_names.enter_labels.Given as goal

-- the names so far, and those of the points that are left, are all that will be there
abbrev pub invariant-points : goal.invariant-points
invariant-points l = listed l.names ++ map first_text (forms_left l.some (codes "point") (rest_of l.list)) ≡ listed l.fn.names ++ map first_text (some_forms_in (codes "point") (rest_of l.fn.list))

abbrev pub decreases-points : goal.decreases-points
decreases-points l = size l.list
