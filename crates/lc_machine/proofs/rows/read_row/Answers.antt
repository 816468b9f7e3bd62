use Rattle.std.proofs.Common.{subst}
use Rattle.std.proofs.lemmas.Int.{to_z-of_z}
use Rattle.std.proofs.lemmas.List.{drop_more}
use Rattle.lc_base.specs.declared.ids.ColId.{ColId}
use Rattle.lc_object.specs.View.{columns_of}
use Rattle.lc_term.specs.State.{state_of}
use Rattle.lc_machine.specs.Fits.{RowFits}
use Rattle.lc_machine.specs.Step.{row}
use Rattle.lc_machine.proofs.RowWrites.{computed_err}
use Rattle.lc_machine.proofs.rows.read_row.Goals as goal

pub returns-in_err-read : goal.returns-in_err-read
returns-in_err-read c =
    let i = c.loop-column.column-index in
    let cs = c.args.columns.now in
    let s = state_of c.args.state.now in
    let d : ColId = record { 0 = 0 } in
    let index_fits = c.ranges.index in
    let split = drop_more cs i d c.loop-column-test.true in
    let wrong = simp to_z-of_z at c.in_err-read.ensures in
    let rest_fits = simp to_z-of_z at c.loop-column.invariant.rest_fits in
    computed_err (RowFits s (columns_of cs) c.args.index) (row s (columns_of cs) c.args.index) c.from_residual.result c.from_residual.ensures.0
    (λ h. wrong (subst (λ l. RowFits s (columns_of l) c.args.index) split (rest_fits h)).0)
