use Rattle.std.proofs.Common.{◌≡◌, ◌++◌}
use Rattle.lc_sexp.specs.Trees.{item_count_of_all}
use Rattle.lc_sexp.specs.Shown.{rest_of, number_of}
use Rattle.lc_reading.specs.Listed.{names_among}
use Rattle.lc_reading.specs.Naming.{names_reading}
use Rattle.lc_reading.specs.TableView.{listed}
use Rattle.lc_reading.proofs.Noted.{IsNoted}
use Rattle.lc_reading.proofs.names.read_names.Given as goal

abbrev pub decreases-names : goal.decreases-names
decreases-names l = item_count_of_all (rest_of l.rest)

abbrev pub invariant-names : goal.invariant-names
invariant-names l =
    record {
      names : listed l.names ++ names_among (rest_of l.rest) ≡ listed l.fn.before ++ names_among (rest_of l.fn.list);
      wrong : IsNoted (names_reading l.limit (listed l.fn.before) (number_of l.fn.list) (rest_of l.fn.list)) (names_reading l.limit (listed l.names) (number_of l.rest) (rest_of l.rest)) l.found;
    }
