use Rattle.std.proofs.Common.{rules, ◌≡◌, ◌∙◌, sym, w64}
use Rattle.std.specs.Prelude.{FitsSigned}
use Rattle.std.specs.Ordering.{int_eq}
use Rattle.std.specs.Cmp.Lexicographic.{pointwise}
use Rattle.std.proofs.lemmas.Int.{to_z-of_z}
use Rattle.std.proofs.lemmas.Result.{err_from_is_err_and}
use Rattle.lc_term.specs.State.{state_of}
use Rattle.lc_term.specs.Updates.{cell_writes}
use Rattle.lc_term.specs.UpdateView.{writes_view}
use Rattle.lc_term.specs.View.{term_of}
use Rattle.lc_object.specs.Objects.{object_view}
use Rattle.lc_object.specs.View.{columns_of, terms_of}
use Rattle.lc_machine.specs.Step.{numbers, row}
use Rattle.lc_machine.specs.Fits.{ComparisonFits}
use Rattle.lc_machine.proofs.Instructions.{effect_of_kept_cas, keep_fits, effect_of_swapped_cas, swap_fits, not_swapped}
use Rattle.lc_machine.proofs.instruction.cas_effect.Goals as goal

pub returns-then-not-branch : goal.returns-then-not-branch
returns-then-not-branch c =
    let index_fits : FitsSigned w64 c.in_ok-index.index = search rules in
    let s = state_of c.args.state.now in
    let vs = c.args.variables.now.values.items in
    let cs = columns_of c.row_columns-columns.result.now in
    let compared : ComparisonFits s cs c.in_ok-index.index c.deref.result.now × (c.in_ok-is_row.field-0 ≡ pointwise int_eq (row s cs c.in_ok-index.index) c.deref.result.now) =
    simp to_z-of_z at c.in_ok-is_row.ensures in
    let olds : c.deref.result.now ≡ numbers s vs (terms_of c.args.old.now) = search rules in
    let parts = rw c.new.ensures at c.in_ok-moving.ensures in
    effect_of_kept_cas (object_view c.args.object.now) s vs
    c.args.array.0 (term_of c.args.index.now) (terms_of c.args.old.now) (terms_of c.args.new.now) c.args.labels.then.0 c.args.labels.otherwise.0
    c.in_ok-index.index cs c.deref.result.now c.in_ok-moving.field-0
    c.in_ok-index.ensures.0 c.in_ok-index.ensures.1 c.in_ok-old.ensures.0 olds c.row_columns-columns.ensures.columns compared.0 (sym compared.1 ∙ c.if-not-branch.true) c.requires.may_run.6 parts

pub returns-in_err-new : goal.returns-in_err-new
returns-in_err-new c =
    let p = err_from_is_err_and c.from_residual-in_err-new.result c.from_residual-in_err-new.ensures.1 in
    let index_fits : FitsSigned w64 c.in_ok-index.index = search rules in
    let s = state_of c.args.state.now in
    let vs = c.args.variables.now.values.items in
    let cs = columns_of c.row_columns-columns.result.now in
    let compared : ComparisonFits s cs c.in_ok-index.index c.deref.result.now × (c.in_ok-is_row.field-0 ≡ pointwise int_eq (row s cs c.in_ok-index.index) c.deref.result.now) =
    simp to_z-of_z at c.in_ok-is_row.ensures in
    let olds : c.deref.result.now ≡ numbers s vs (terms_of c.args.old.now) = search rules in
    rw (p.1, p.2) (not_swapped (object_view c.args.object.now) s vs
    c.args.array.0 (term_of c.args.index.now) (terms_of c.args.old.now) (terms_of c.args.new.now) c.args.labels.then.0 c.args.labels.otherwise.0
    c.in_ok-index.index cs c.deref.result.now
    c.in_ok-index.ensures.1 olds c.row_columns-columns.ensures.columns (sym compared.1 ∙ c.if-not-branch.false) c.in_err-new.ensures)

pub returns-in_err-moving : goal.returns-in_err-moving
returns-in_err-moving c =
    let p = err_from_is_err_and c.from_residual-in_err-moving.result c.from_residual-in_err-moving.ensures.1 in
    let index_fits : FitsSigned w64 c.in_ok-index.index = search rules in
    let s = state_of c.args.state.now in
    let vs = c.args.variables.now.values.items in
    let cs = columns_of c.row_columns-columns.result.now in
    let compared : ComparisonFits s cs c.in_ok-index.index c.deref.result.now × (c.in_ok-is_row.field-0 ≡ pointwise int_eq (row s cs c.in_ok-index.index) c.deref.result.now) =
    simp to_z-of_z at c.in_ok-is_row.ensures in
    let olds : c.deref.result.now ≡ numbers s vs (terms_of c.args.old.now) = search rules in
    rw (p.1, p.2) (keep_fits (object_view c.args.object.now) s vs
    c.args.array.0 (term_of c.args.index.now) (terms_of c.args.old.now) (terms_of c.args.new.now) c.args.labels.then.0 c.args.labels.otherwise.0
    c.in_ok-index.index cs c.deref.result.now
    c.in_ok-index.ensures.0 c.in_ok-index.ensures.1 c.in_ok-old.ensures.0 olds c.row_columns-columns.ensures.columns compared.0 (sym compared.1 ∙ c.if-not-branch.true))

pub returns-in_err-moving-2 : goal.returns-in_err-moving-2
returns-in_err-moving-2 c =
    let p = err_from_is_err_and c.from_residual-in_err-moving-2.result c.from_residual-in_err-moving-2.ensures.1 in
    let index_fits : FitsSigned w64 c.in_ok-index.index = search rules in
    let s = state_of c.args.state.now in
    let vs = c.args.variables.now.values.items in
    let cs = columns_of c.row_columns-columns.result.now in
    let compared : ComparisonFits s cs c.in_ok-index.index c.deref.result.now × (c.in_ok-is_row.field-0 ≡ pointwise int_eq (row s cs c.in_ok-index.index) c.deref.result.now) =
    simp to_z-of_z at c.in_ok-is_row.ensures in
    let olds : c.deref.result.now ≡ numbers s vs (terms_of c.args.old.now) = search rules in
    rw (p.1, p.2) (swap_fits (object_view c.args.object.now) s vs
    c.args.array.0 (term_of c.args.index.now) (terms_of c.args.old.now) (terms_of c.args.new.now) c.args.labels.then.0 c.args.labels.otherwise.0
    c.in_ok-index.index cs c.deref.result.now
    c.in_ok-index.ensures.0 c.in_ok-index.ensures.1 c.in_ok-old.ensures.0 olds c.row_columns-columns.ensures.columns compared.0 c.in_ok-new.ensures.0)

pub returns : goal.returns
returns c =
    let index_fits : FitsSigned w64 c.in_ok-index.index = search rules in
    let s = state_of c.args.state.now in
    let vs = c.args.variables.now.values.items in
    let cs = columns_of c.row_columns-columns.result.now in
    let compared : ComparisonFits s cs c.in_ok-index.index c.deref.result.now × (c.in_ok-is_row.field-0 ≡ pointwise int_eq (row s cs c.in_ok-index.index) c.deref.result.now) =
    simp to_z-of_z at c.in_ok-is_row.ensures in
    let olds : c.deref.result.now ≡ numbers s vs (terms_of c.args.old.now) = search rules in
    let news : c.deref-2.result.now ≡ numbers s vs (terms_of c.args.new.now) = search rules in
    let writes : writes_view c.row_writes-writes.result.items ≡ cell_writes cs c.in_ok-index.index c.deref-2.result.now = simp to_z-of_z at c.row_writes-writes.ensures in
    effect_of_swapped_cas (object_view c.args.object.now) s vs
    c.args.array.0 (term_of c.args.index.now) (terms_of c.args.old.now) (terms_of c.args.new.now) c.args.labels.then.0 c.args.labels.otherwise.0
    c.in_ok-index.index cs c.deref.result.now c.deref-2.result.now (writes_view c.row_writes-writes.result.items) c.in_ok-moving-2.field-0
    c.in_ok-index.ensures.0 c.in_ok-index.ensures.1 c.in_ok-old.ensures.0 olds c.row_columns-columns.ensures.columns compared.0 (sym compared.1 ∙ c.if-not-branch.false)
    c.in_ok-new.ensures.0 news c.row_columns-columns.ensures.there writes c.requires.may_run.5 c.in_ok-moving-2.ensures
