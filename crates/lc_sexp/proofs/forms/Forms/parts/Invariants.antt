use Rattle.std.proofs.Common.{◌≡◌}
use Rattle.lc_sexp.specs.Trees.{row, item_count_of_all}
use Rattle.lc_sexp.specs.TreeCode.{joined_rows}
use Rattle.lc_sexp.specs.Shown.{rest_of}
use Rattle.lc_sexp.proofs.forms.Forms.parts.Given as goal

abbrev pub invariant-loop-item : goal.invariant-loop-item
invariant-loop-item l = joined_rows (row l.parts.items) (rest_of l.rest) ≡ l.self

abbrev pub decreases-loop-item : goal.decreases-loop-item
decreases-loop-item l = item_count_of_all (rest_of l.rest)
