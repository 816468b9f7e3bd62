use Rattle.std.proofs.Common.{◌≡◌, w64, rules, refl}
use Rattle.std.specs.Prelude.{FitsSigned, OnOk, Some}
use Rattle.std.proofs.lemmas.Int.{to_z-of_z}
use Rattle.lc_term.specs.Written.{kept_in, kept_of, with_written, written_in}
use Rattle.lc_term.specs.declared.state.Undo.{Undo}
use Rattle.lc_term.proofs.Written.{note-of, noted-back, noted-can, ok-changed}
use Rattle.lc_term.proofs.state.State.write_noted.Goals as goal

pub returns-clause-ok : goal.returns-clause-ok
returns-clause-ok c =
    let w = c.args.write in
    let index_fits : FitsSigned w64 w.index = search rules in
    let value_fits : FitsSigned w64 w.value = search rules in
    let cells = c.index_mut-cells.result.now in
    let ok : OnOk c.write.result (kept_in c.write.new.self ≡ with_written (kept_in cells) w.index (Some w.value)) = simp to_z-of_z at c.write.ensures.ok in
    ok-changed c.write.result c.args.self.now.columns.items w.column.0 cells c.write.new.self w.index w.value c.requires.there c.index_mut-cells.ensures.value ok

pub returns-clause-back : goal.returns-clause-back
returns-clause-back c =
    let w = c.args.write in
    let index_fits : FitsSigned w64 w.index = search rules in
    let value_fits : FitsSigned w64 w.value = search rules in
    let cells = c.index_mut-cells.result.now in
    let ok : OnOk c.write.result (kept_in c.write.new.self ≡ with_written (kept_in cells) w.index (Some w.value)) = simp to_z-of_z at c.write.ensures.ok in
    let before : c.written.result ≡ written_in cells w.index = simp to_z-of_z at c.written.ensures in
    let u : Undo = record { column = w.column; index = w.index; before = c.written.result } in
    let note = note-of c.write.result c.args.self.now.columns.items w.column.0 cells c.write.new.self w.index w.value u c.requires.there c.index_mut-cells.ensures.value ok c.write.ensures.err refl refl before in
    rw (c.in_ok-push.ensures.items, to_z-of_z w64 w.index index_fits) (noted-back (kept_of c.args.self.now) _ c.args.done.now.items u note)

pub returns-clause-can : goal.returns-clause-can
returns-clause-can c =
    let w = c.args.write in
    let index_fits : FitsSigned w64 w.index = search rules in
    let value_fits : FitsSigned w64 w.value = search rules in
    let cells = c.index_mut-cells.result.now in
    let ok : OnOk c.write.result (kept_in c.write.new.self ≡ with_written (kept_in cells) w.index (Some w.value)) = simp to_z-of_z at c.write.ensures.ok in
    let before : c.written.result ≡ written_in cells w.index = simp to_z-of_z at c.written.ensures in
    let u : Undo = record { column = w.column; index = w.index; before = c.written.result } in
    let note = note-of c.write.result c.args.self.now.columns.items w.column.0 cells c.write.new.self w.index w.value u c.requires.there c.index_mut-cells.ensures.value ok c.write.ensures.err refl refl before in
    rw (c.in_ok-push.ensures.items, to_z-of_z w64 w.index index_fits) (noted-can (kept_of c.args.self.now) _ c.args.done.now.items u note c.requires.can)
