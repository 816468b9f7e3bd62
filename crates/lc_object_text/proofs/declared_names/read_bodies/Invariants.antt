use Rattle.std.proofs.Common.{◌≡◌, ◌-◌, ◌++◌, length}
use Rattle.lc_sexp.specs.Shown.{rest_of}
use Rattle.lc_reading.specs.TableView.{listed}
use Rattle.lc_object_text.specs.DeclaredView.{calls_view, bodies_view}
use Rattle.lc_object_text.specs.ObjectNames.{bodies_from, labels_of_bodies}
use Rattle.lc_object_text.proofs.declared_names.read_bodies.Given as goal

-- the bodies so far, and those that are left, are all that will be there
abbrev pub invariant-loop-number : goal.invariant-loop-number
invariant-loop-number l = record {
  bodies : bodies_view l.bodies.items ++ bodies_from (listed l.operations.names) (calls_view l.operations.calls.items) l.number (length (listed l.points)) (l.due - l.number) (rest_of l.list)
      ≡ bodies_from (listed l.operations.names) (calls_view l.operations.calls.items) 0 0 l.due (rest_of l.fn.list);
  points : listed l.points ≡ labels_of_bodies (bodies_view l.bodies.items);
}
