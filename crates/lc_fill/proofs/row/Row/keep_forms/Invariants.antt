use Rattle.std.proofs.Common.{◌≡◌}
use Rattle.lc_sexp.specs.Trees.{item_count_of_all}
use Rattle.lc_sexp.specs.Shown.{rest_of, number_of}
use Rattle.lc_fill.specs.Filled.{Filler}
use Rattle.lc_fill.specs.Forms.{while_forms}
use Rattle.lc_fill.specs.Seen.{onto}
use Rattle.lc_fill.proofs.row.Row.keep_forms.Given as goal

abbrev pub invariant-items : goal.invariant-items
invariant-items l = (next : Filler) → onto l.self (while_forms l.word next (number_of l.rest) (rest_of l.rest)) ≡ onto l.fn.self (while_forms l.word next (number_of l.fn.rest) (rest_of l.fn.rest))

abbrev pub decreases-items : goal.decreases-items
decreases-items l = item_count_of_all (rest_of l.rest)
