use Rattle.lc_sexp.specs.Trees.{item_count_of_all}
use Rattle.lc_sexp.specs.Shown.{rest_of, number_of}
use Rattle.lc_outline.specs.PartsView.{on_of}
use Rattle.lc_reading.proofs.SoFar.{IsSoFar}
use Rattle.lc_object_text.specs.Rows.{cons}
use Rattle.lc_rider_text.specs.KnownView.{known_view, ways_there}
use Rattle.lc_rider_text.specs.Ons.{ons_reading}
use Rattle.lc_rider_text.proofs.on.read_ons.Given as goal

abbrev pub decreases-ons : goal.decreases-ons
decreases-ons g l = item_count_of_all (rest_of l.rest)

abbrev pub invariant-ons : goal.invariant-ons
invariant-ons g l =
    let known = known_view l.fn.known in
    let names = g.S.Scope.names l.scope in
    let own = ways_there l.fn.own in
    IsSoFar on_of cons (ons_reading known names own l.fn.edges (number_of l.fn.list) (rest_of l.fn.list)) (ons_reading known names own l.left (number_of l.rest) (rest_of l.rest)) l.ons
