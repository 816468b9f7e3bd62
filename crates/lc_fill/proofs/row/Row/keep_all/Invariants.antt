use Rattle.std.proofs.Common.{◌≡◌}
use Rattle.lc_sexp.specs.Trees.{item_count_of_all}
use Rattle.lc_sexp.specs.Shown.{rest_of}
use Rattle.lc_fill.specs.Filled.{as_is}
use Rattle.lc_fill.specs.Seen.{onto}
use Rattle.lc_fill.proofs.row.Row.keep_all.Given as goal

abbrev pub invariant-items : goal.invariant-items
invariant-items l = onto l.self (as_is (rest_of l.rest)) ≡ onto l.fn.self (as_is (rest_of l.fn.list))

abbrev pub decreases-items : goal.decreases-items
decreases-items l = item_count_of_all (rest_of l.rest)
