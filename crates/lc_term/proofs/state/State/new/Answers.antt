use Rattle.std.proofs.Common.{◌∙◌, ap, map, get_or, w64, rules}
use Rattle.std.specs.Prelude.{pos, FitsSigned}
use Rattle.std.proofs.lemmas.Int.{to_z-of_z}
use Rattle.lc_term.specs.State.{cells_of}
use Rattle.lc_term.proofs.Cells.{initial_columns-more}
use Rattle.lc_term.proofs.state.State.new.Goals as goal

pub loop-slope-preserved : goal.loop-slope-preserved
loop-slope-preserved c =
    let numbers = get_or c.args.initial.now c.loop-slope.slope-index (pos 0, pos 0) in
    let slope_fits : FitsSigned w64 numbers.0 = search rules in
    let start_fits : FitsSigned w64 numbers.1 = search rules in
    ap (map cells_of) c.in_ok-push.ensures.items ∙
    initial_columns-more c.loop-slope.columns.items c.args.initial.now c.loop-slope.slope-index _ (pos 0, pos 0) c.loop-slope-test.true
    (to_z-of_z w64 numbers.0 slope_fits) (to_z-of_z w64 numbers.1 start_fits) c.new-written.ensures.empty c.loop-slope.invariant
