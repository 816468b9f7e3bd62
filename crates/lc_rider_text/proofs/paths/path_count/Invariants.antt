use Rattle.std.proofs.Common.{◌≡◌, ◌*◌, ◌≤◌}
use Rattle.std.specs.Prelude.{min}
use Rattle.lc_rider_text.specs.Ons.{path_cap}
use Rattle.lc_sexp.specs.Shown.{rest_of}
use Rattle.lc_sexp.specs.Trees.{item_count_of_all}
use Rattle.lc_rider_text.specs.KnownView.{known_view, ways_there}
use Rattle.lc_rider_text.specs.Paths.{path_count}
use Rattle.lc_rider_text.proofs.paths.path_count.Given as goal

abbrev pub invariant-riders : goal.invariant-riders
invariant-riders l =
    record {
      few : l.count ≤ path_cap;
      counted : min path_cap (path_count (known_view l.fn.known) (ways_there l.fn.own) (rest_of l.fn.list)) ≡ min path_cap (l.count * path_count (known_view l.fn.known) (ways_there l.fn.own) (rest_of l.rest));
    }

abbrev pub decreases-riders : goal.decreases-riders
decreases-riders l = item_count_of_all (rest_of l.rest)
