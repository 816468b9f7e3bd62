use Rattle.std.proofs.Common.{◌≡◌, ◌++◌}
use Rattle.lc_sexp.specs.Trees.{item_count_of_all}
use Rattle.lc_sexp.specs.Shown.{rest_of}
use Rattle.lc_layout.specs.Layout.{laid_out}
use Rattle.lc_layout.proofs.laying.lay_out.Given as goal

abbrev pub invariant-loop-form : goal.invariant-loop-form
invariant-loop-form l = l.text.items ++ laid_out (rest_of l.rest) ≡ laid_out (rest_of l.forms)

abbrev pub decreases-loop-form : goal.decreases-loop-form
decreases-loop-form l = item_count_of_all (rest_of l.rest)
