use Rattle.std.proofs.Common.{rules, w64}
use Rattle.std.specs.Prelude.{FitsSigned}
use Rattle.std.proofs.lemmas.Int.{to_z-of_z}
use Rattle.std.proofs.lemmas.Result.{err_from_is_err_and}
use Rattle.lc_term.specs.State.{state_of}
use Rattle.lc_term.specs.View.{term_of}
use Rattle.lc_object.specs.Objects.{object_view}
use Rattle.lc_object.specs.View.{columns_of, locals_of}
use Rattle.lc_machine.proofs.Instructions.{effect_of_load, load_fits}
use Rattle.lc_machine.proofs.instruction.load_effect.Goals as goal

pub returns-in_err-assigning : goal.returns-in_err-assigning
returns-in_err-assigning c =
    let p = err_from_is_err_and c.from_residual-in_err-assigning.result c.from_residual-in_err-assigning.ensures.1 in
    let index_fits : FitsSigned w64 c.in_ok-index.index = search rules in
    let read = simp to_z-of_z at c.in_ok-numbers.ensures in
    rw (p.1, p.2) (load_fits (object_view c.args.object.now) (state_of c.args.state.now) c.args.variables.now.values.items
    c.args.array.0 (term_of c.args.index.now) (locals_of c.args.targets.now) c.args.next.0 c.in_ok-index.index (columns_of c.row_columns.result.now)
    c.in_ok-index.ensures.0 c.in_ok-index.ensures.1 c.row_columns.ensures.columns read.0)

pub returns : goal.returns
returns c =
    let index_fits : FitsSigned w64 c.in_ok-index.index = search rules in
    let read = simp to_z-of_z at c.in_ok-numbers.ensures in
    let parts = rw c.deref.ensures.0 at c.in_ok-assigning.ensures in
    effect_of_load (object_view c.args.object.now) (state_of c.args.state.now) c.args.variables.now.values.items
    c.args.array.0 (term_of c.args.index.now) (locals_of c.args.targets.now) c.args.next.0 c.in_ok-index.index (columns_of c.row_columns.result.now) c.in_ok-numbers.numbers.items
    c.in_ok-assigning.field-0 c.in_ok-index.ensures.0 c.in_ok-index.ensures.1 c.row_columns.ensures.columns read.0 read.1 c.requires.may_run.3 parts
