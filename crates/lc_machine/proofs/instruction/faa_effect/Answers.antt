use Rattle.std.proofs.Common.{rules, ◌≡◌, ◌∙◌, refl, sym, ap, length, w64}
use Rattle.std.specs.Prelude.{FitsSigned}
use Rattle.std.proofs.lemmas.Int.{to_z-of_z}
use Rattle.lc_term.specs.State.{state_of}
use Rattle.lc_term.specs.Updates.{cell_writes}
use Rattle.lc_term.specs.UpdateView.{writes_view}
use Rattle.lc_term.specs.View.{term_of}
use Rattle.lc_object.specs.Objects.{object_view}
use Rattle.lc_object.specs.View.{columns_of, locals_of, terms_of}
use Rattle.std.proofs.lemmas.List.{length-map}
use Rattle.lc_base.specs.declared.ids.ColId.{ColId}
use Rattle.lc_machine.specs.Step.{number, numbers, row, assigned, Goes}
use Rattle.lc_machine.proofs.Instructions.{effect_of_faa}
use Rattle.lc_machine.proofs.Sums.{sums_length}
use Rattle.lc_machine.proofs.instruction.faa_effect.Goals as goal

pub row_writes-writes-requires-clause-each : goal.row_writes-writes-requires-clause-each
row_writes-writes-requires-clause-each c =
    let index_fits : FitsSigned w64 c.in_ok-index.index = search rules in
    let s = state_of c.args.state.now in
    let vs = c.args.variables.now.values.items in
    let cs = columns_of c.row_columns-columns.result.now in
    let read = simp to_z-of_z at c.in_ok-numbers.ensures in
    let found : c.deref.result.now ≡ row s cs c.in_ok-index.index = c.deref.ensures.0 ∙ read.1 in
    let given : c.deref-2.result.now ≡ numbers s vs (terms_of c.args.added.now) = c.deref-2.ensures.0 ∙ c.in_ok-added.ensures.1 in
    let wide : length c.deref.result.now ≡ length cs = ap length found ∙ length-map cs (λ k. s k c.in_ok-index.index) in
    let many : length c.deref-2.result.now ≡ length (terms_of c.args.added.now) = ap length given ∙ length-map (terms_of c.args.added.now) (number s vs) in
    let even : length cs ≡ length (terms_of c.args.added.now) = ap length c.row_columns-columns.ensures.columns ∙ (c.requires.may_run.1).1 in
    sym (length-map c.row_columns-columns.result.now (λ (k : ColId). k.0)) ∙ sym wide
    ∙ sym (sums_length c.deref.result.now c.deref-2.result.now (wide ∙ even ∙ sym many)) ∙ sym (ap length (c.deref-3.ensures.0 ∙ c.in_ok-sums.ensures.1))

pub returns : goal.returns
returns c =
    let index_fits : FitsSigned w64 c.in_ok-index.index = search rules in
    let s = state_of c.args.state.now in
    let vs = c.args.variables.now.values.items in
    let cs = columns_of c.row_columns-columns.result.now in
    let read = simp to_z-of_z at c.in_ok-numbers.ensures in
    let writes : writes_view c.row_writes-writes.result.items ≡ cell_writes cs c.in_ok-index.index c.deref-3.result.now = simp to_z-of_z at c.row_writes-writes.ensures in
    let found : c.deref.result.now ≡ row s cs c.in_ok-index.index = c.deref.ensures.0 ∙ read.1 in
    let given : c.deref-2.result.now ≡ numbers s vs (terms_of c.args.added.now) = c.deref-2.ensures.0 ∙ c.in_ok-added.ensures.1 in
    let goes = c.in_ok-effect.ensures.2 ∙ ap (λ ns. Goes c.args.next.0 (assigned vs (locals_of c.args.targets.now) ns)) (c.deref-4.ensures.0 ∙ sym c.deref.ensures.0) in
    effect_of_faa (object_view c.args.object.now) s vs c.args.array.0 (term_of c.args.index.now) (locals_of c.args.targets.now) (terms_of c.args.added.now) c.args.next.0
    c.in_ok-index.index cs c.deref.result.now c.deref-2.result.now c.deref-3.result.now (writes_view c.row_writes-writes.result.items)
    (record { edge = c.in_ok-effect.effect.edge; writes = c.row_writes-writes.result; fate = c.in_ok-effect.effect.fate })
    c.in_ok-index.ensures.0 c.in_ok-index.ensures.1 c.in_ok-added.ensures.0 given c.row_columns-columns.ensures.columns read.0 found c.in_ok-sums.ensures.0
    (c.deref-3.ensures.0 ∙ c.in_ok-sums.ensures.1) c.row_columns-columns.ensures.there writes c.requires.may_run.5 (c.in_ok-effect.ensures.0, refl, goes)
