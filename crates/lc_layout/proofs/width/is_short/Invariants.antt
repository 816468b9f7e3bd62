use Rattle.std.proofs.Common.{◌≡◌}
use Rattle.lc_sexp.specs.Trees.{item_count_of_all}
use Rattle.lc_sexp.specs.Shown.{rest_of, item_tree}
use Rattle.lc_layout.specs.Layout.{are_atoms, is_short}
use Rattle.lc_layout.proofs.width.is_short.Given as goal

abbrev pub invariant-loop-part : goal.invariant-loop-part
invariant-loop-part l = are_atoms (rest_of l.rest) ≡ is_short (item_tree l.item)

abbrev pub decreases-loop-part : goal.decreases-loop-part
decreases-loop-part l = item_count_of_all (rest_of l.rest)
