use Rattle.std.proofs.Common.{◌≡◌, ◌++◌, map}
use Rattle.lc_sexp.specs.Shown.{rest_of}
use Rattle.lc_object_text.specs.Seen.{size}
use Rattle.lc_outline_text.specs.DeclarationsView.{declarations_view}
use Rattle.lc_outline_text.specs.Paths.{ways_kept}
use Rattle.lc_outline_text.specs.Sizes.{all_ways}
use Rattle.lc_outline_text.specs.StoredView.{ways_of_riders}
use Rattle.lc_outline_text.proofs.ways.riders_in.Given as goal

-- the riders so far, and those that are left, are passed in all ways
abbrev pub invariant-riders : goal.invariant-riders
invariant-riders l =
    map ways_kept (ways_of_riders l.riders.items) ++ map ways_kept (all_ways (declarations_view l.declarations) l.operation (rest_of l.rest))
    ≡ map ways_kept (all_ways (declarations_view l.declarations) l.operation (rest_of l.fn.list))

abbrev pub decreases-riders : goal.decreases-riders
decreases-riders l = size l.rest
