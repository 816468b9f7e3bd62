use Rattle.std.proofs.Common.{w64, subst}
use Rattle.std.specs.Prelude.{FitsSigned, OkIff}
use Rattle.lc_term.proofs.Numbers.{sum_fits, cell_is, OkIff-map_err}
use Rattle.lc_term.specs.Meaning.{affine}
use Rattle.lc_term.proofs.state.affine_cell.Goals as goal

pub overflow_add-number : goal.overflow_add-number
overflow_add-number c =
    sum_fits c.args.slope c.args.start c.args.index c.from.result c.from-2.result c.from-3.result c.ranges.slope c.ranges.start c.ranges.index
    c.from.ensures c.from-2.ensures c.from-3.ensures

pub returns : goal.returns
returns c =
    let is = cell_is c.args.slope c.args.start c.args.index c.from.result c.from-2.result c.from-3.result c.ranges.slope c.ranges.start c.ranges.index
    c.from.ensures c.from-2.ensures c.from-3.ensures in
    let cell = affine c.args.slope c.args.start c.args.index in
    OkIff-map_err c.try_from.result c.map_err.result (FitsSigned w64 cell) cell _
    (subst (λ x. OkIff c.try_from.result (FitsSigned w64 x) x) is c.try_from.ensures) c.map_err.ensures.cases
