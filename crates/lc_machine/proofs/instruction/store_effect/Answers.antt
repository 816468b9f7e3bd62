use Rattle.std.proofs.Common.{rules, ◌≡◌, ◌∙◌, w64}
use Rattle.std.specs.Prelude.{FitsSigned}
use Rattle.std.proofs.lemmas.Int.{to_z-of_z}
use Rattle.std.proofs.lemmas.Result.{err_from_is_err_and}
use Rattle.lc_term.specs.State.{state_of}
use Rattle.lc_term.specs.Updates.{cell_writes}
use Rattle.lc_term.specs.UpdateView.{writes_view}
use Rattle.lc_term.specs.View.{term_of}
use Rattle.lc_object.specs.Objects.{object_view}
use Rattle.lc_object.specs.View.{columns_of, terms_of}
use Rattle.lc_machine.proofs.Instructions.{effect_of_store}
use Rattle.lc_machine.proofs.instruction.store_effect.Goals as goal

pub returns : goal.returns
returns c =
    let index_fits : FitsSigned w64 c.in_ok-index.index = search rules in
    let cs = columns_of c.row_columns.result.now in
    let writes : writes_view c.row_writes-writes.result.items ≡ cell_writes cs c.in_ok-index.index c.deref.result.now = simp to_z-of_z at c.row_writes-writes.ensures in
    effect_of_store (object_view c.args.object.now) (state_of c.args.state.now) c.args.variables.now.values.items
    c.args.array.0 (term_of c.args.index.now) (terms_of c.args.values.now) c.args.next.0 c.in_ok-index.index cs c.deref.result.now (writes_view c.row_writes-writes.result.items)
    c.in_ok-moving.field-0 c.in_ok-index.ensures.0 c.in_ok-index.ensures.1 c.in_ok-numbers.ensures.0 (c.deref.ensures.0 ∙ c.in_ok-numbers.ensures.1) c.row_columns.ensures.columns
    c.row_columns.ensures.there writes c.requires.may_run.3 c.in_ok-moving.ensures

pub returns-in_err-moving : goal.returns-in_err-moving
returns-in_err-moving c =
    let p = err_from_is_err_and c.from_residual-in_err-moving.result c.from_residual-in_err-moving.ensures.1 in
    rw (p.1, p.2) (c.in_ok-index.ensures.0, c.in_ok-numbers.ensures.0)
