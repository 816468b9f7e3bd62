use Rattle.lc_sexp.specs.Trees.{item_count_of_all}
use Rattle.lc_sexp.specs.Shown.{rest_of, number_of}
use Rattle.lc_reading.proofs.SoFar.{IsSoFar}
use Rattle.lc_object_text.specs.Rows.{cons, placed_reading}
use Rattle.lc_object_text.proofs.rows.read_placed.Given as goal

abbrev pub decreases-items : goal.decreases-items
decreases-items g l = item_count_of_all (rest_of l.rest)

abbrev pub invariant-items : goal.invariant-items
invariant-items g l =
    let read = g.R.ReadsPlaced.reading l.reader in
    IsSoFar g.R.ReadsPlaced.meaning cons (placed_reading read 0 (number_of l.fn.list) (rest_of l.fn.list)) (placed_reading read l.place (number_of l.rest) (rest_of l.rest)) l.values
