use Rattle.std.proofs.Common.{◌∷◌}
use Rattle.lc_sexp.specs.Trees.{item_count_of_all}
use Rattle.lc_sexp.specs.Shown.{rest_of, number_of, owner_of}
use Rattle.lc_reading.specs.Rows.{counted_reading}
use Rattle.lc_reading.proofs.SoFar.{IsSoFar}
use Rattle.lc_reading.proofs.counted.read_counted.Given as goal

abbrev pub decreases-items : goal.decreases-items
decreases-items g l = item_count_of_all (rest_of l.rest)

abbrev pub invariant-items : goal.invariant-items
invariant-items g l =
    let read = g.R.Reads.reading l.reader in
    let n = owner_of l.fn.list in
    IsSoFar g.R.Reads.meaning (λ x xs. x ∷ xs) (counted_reading read n l.fn.count (number_of l.fn.list) (rest_of l.fn.list)) (counted_reading read n l.due (number_of l.rest) (rest_of l.rest)) l.values
