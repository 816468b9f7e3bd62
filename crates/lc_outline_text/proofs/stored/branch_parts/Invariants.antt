use Rattle.std.proofs.Common.{◌≡◌, ◌++◌}
use Rattle.lc_sexp.specs.Shown.{rest_of}
use Rattle.lc_object_text.specs.Seen.{size}
use Rattle.lc_outline_text.specs.Rests.{rests_of}
use Rattle.lc_outline_text.specs.StoredView.{branch_parts}
use Rattle.lc_outline_text.proofs.stored.branch_parts.Given as goal

-- the branches so far, and those that are left, are all that will be there
abbrev pub invariant-branches : goal.invariant-branches
invariant-branches l = rests_of l.parts.items ++ branch_parts (rest_of l.rest) ≡ branch_parts (rest_of l.fn.list)

abbrev pub decreases-branches : goal.decreases-branches
decreases-branches l = size l.rest
