use Rattle.std.proofs.Common.{refl, ap}
use Rattle.std.proofs.lemmas.Int.{to_z-of_z}
use Rattle.std.proofs.lemmas.List.{length-map}
use Rattle.lc_term.specs.State.{column_at}
use Rattle.lc_term.specs.declared.state.Cells.{Cells}
use Rattle.lc_term.proofs.Cells.{cells_of-insert, state_of-write, columns-unchanged, on_err}
use Rattle.lc_term.proofs.state.State.write.Goals as goal

pub returns-clause-ok : goal.returns-clause-ok
returns-clause-ok c =
    let index_fits = c.ranges.index in
    let number_fits = c.ranges.number in
    let old = c.index_mut-cells.result.now in
    let new : Cells = record old { written = c.insert.new.self } in
    state_of-write c.args.self.now.columns.items c.args.column.0 old new c.args.index c.args.number (rw length-map at c.requires) c.index_mut-cells.ensures.value
    (cells_of-insert old new c.args.index c.args.number refl refl (simp to_z-of_z at c.in_ok-insert.ensures.updates))

pub returns-in_err-insert-clause-err : goal.returns-in_err-insert-clause-err
returns-in_err-insert-clause-err c =
    let old = c.index_mut-cells.result.now in
    let new : Cells = record old { written = c.insert.new.self } in
    on_err c.from_residual.result
    (ap column_at (columns-unchanged c.args.self.now.columns.items c.args.column.0 old new c.index_mut-cells.ensures.value refl refl c.in_err-insert.ensures.err))
