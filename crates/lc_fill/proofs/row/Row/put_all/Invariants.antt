use Rattle.std.proofs.Common.{◌≡◌}
use Rattle.lc_sexp.specs.Trees.{Trees, item_count_of_all}
use Rattle.lc_sexp.specs.Shown.{rest_of}
use Rattle.lc_fill.specs.Filled.{Filled, put_all}
use Rattle.lc_fill.specs.Seen.{onto}
use Rattle.lc_fill.proofs.row.Row.put_all.Given as goal

abbrev pub invariant-items : goal.invariant-items
invariant-items l = (r : Filled Trees) → onto l.self (put_all l.place (rest_of l.rest) r) ≡ onto l.fn.self (put_all l.place (rest_of l.fn.list) r)

abbrev pub decreases-items : goal.decreases-items
decreases-items l = item_count_of_all (rest_of l.rest)
