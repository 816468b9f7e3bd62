use Rattle.std.proofs.Common.{◌≡◌, ◌++◌, map}
use Rattle.std.specs.Prelude.{codes}
use Rattle.lc_sexp.specs.Shown.{rest_of}
use Rattle.lc_object_text.specs.ObjectNames.{points_in}
use Rattle.lc_object_text.specs.Seen.{size, forms_left}
use Rattle.lc_outline_text.specs.Sizes.{assert_count}
use Rattle.lc_outline_text.proofs.conditions.assert_counts.Given as goal

-- the counts so far, and those of the points that are left, are all that will be there
abbrev pub invariant-points : goal.invariant-points
invariant-points l = l.counts.items ++ map assert_count (forms_left l.some (codes "point") (rest_of l.rest)) ≡ map assert_count (points_in (rest_of l.fn.body))

abbrev pub decreases-points : goal.decreases-points
decreases-points l = size l.rest
