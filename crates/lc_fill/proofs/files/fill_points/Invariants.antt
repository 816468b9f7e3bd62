use Rattle.std.proofs.Common.{◌≡◌}
use Rattle.lc_sexp.specs.Trees.{item_count_of_all}
use Rattle.lc_sexp.specs.Shown.{rest_of, number_of}
use Rattle.lc_fill.specs.Filled.{each, ended}
use Rattle.lc_fill.specs.Points.{point_filled}
use Rattle.lc_fill.specs.Seen.{acts_view, onto}
use Rattle.lc_fill.proofs.files.fill_points.Given as goal

abbrev pub invariant-items : goal.invariant-items
invariant-items l =
    let a = acts_view l.acts in
    onto l.row (each (point_filled a) (ended) (number_of l.rest) (rest_of l.rest)) ≡ onto l.fn.row (each (point_filled a) (ended) (number_of l.fn.list) (rest_of l.fn.list))

abbrev pub decreases-items : goal.decreases-items
decreases-items l = item_count_of_all (rest_of l.rest)
