use Rattle.std.proofs.Common.{◌≡◌, ◌+◌, ◌≤◌, ◌∷◌, ◌++◌, Some, length, take}
use Rattle.lc_base.specs.Limits.{argument_limit}
use Rattle.lc_base.specs.Name.{bytes_of}
use Rattle.lc_sexp.specs.Trees.{item_count_of_all}
use Rattle.lc_sexp.specs.Shown.{rest_of, number_of}
use Rattle.lc_reading.specs.Listed.{declared_by}
use Rattle.lc_reading.specs.Naming.{name_reading}
use Rattle.lc_reading.specs.Rows.{all_declared, declared_reading}
use Rattle.lc_reading.specs.TableView.{listed}
use Rattle.lc_reading.proofs.SoFar.{IsSoFar}
use Rattle.lc_spec_text.proofs.arguments.read_listed_arguments.Given as goal

abbrev pub decreases-items : goal.decreases-items
decreases-items l = item_count_of_all (rest_of l.rest)

-- the first names, as many as the place says, come one after another and before those of the items that are left
abbrev pub invariant-items : goal.invariant-items
invariant-items l =
    let read = declared_reading (name_reading (Some (1 + argument_limit))) declared_by in
    record {
      within : l.place ≤ length (listed l.names);
      names : take l.place (listed l.names) ++ all_declared declared_by (rest_of l.rest) ≡ listed l.names;
      read : IsSoFar bytes_of (λ x xs. x ∷ xs) (read (listed l.fn.before) (number_of l.fn.list) (rest_of l.fn.list)) (read (take l.place (listed l.names)) (number_of l.rest) (rest_of l.rest)) l.values;
    }
