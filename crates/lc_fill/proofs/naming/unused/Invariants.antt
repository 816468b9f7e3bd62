use Rattle.std.proofs.Common.{◌≡◌, true, length}
use Rattle.std.specs.Prelude.{codes, string_bytes}
use Rattle.lc_sexp.specs.Printed.{is_atom}
use Rattle.lc_reading.specs.TableView.{listed}
use Rattle.lc_fill.specs.Acts.{unused}
use Rattle.lc_fill.proofs.naming.unused.Given as goal

-- the name so far goes on to the one that is meant
abbrev pub invariant-loop-left : goal.invariant-loop-left
invariant-loop-left l = record {
  name : unused (listed l.names) l.left (string_bytes l.name) ≡ unused (listed l.names) (length (listed l.names)) (codes "todo");
  spelled : is_atom (string_bytes l.name) ≡ true;
}

abbrev pub decreases-loop-left : goal.decreases-loop-left
decreases-loop-left l = l.left
