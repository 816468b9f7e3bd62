use mir.Val.{to_z, of_z}
use Rattle.std.proofs.Common.{pos, w64, ap, sym, subst, ◌∙◌, length}
use Rattle.std.specs.Prelude.{FitsSigned}
use Rattle.std.proofs.lemmas.Int.{to_z-of_z}
use Rattle.lc_term.specs.State.{state_of, column_count}
use Rattle.lc_term.specs.SystemColumns.{note_columns}
use Rattle.lc_action.specs.ActionView.{first_of}
use Rattle.lc_steps.proofs.Replying.{none-noted, note-unread, noted-as, notes-there, stand_in_row}
use Rattle.lc_steps.proofs.replies.is_noted.Goals as goal

pub returns-in_err-flag : goal.returns-in_err-flag
returns-in_err-flag c =
    let m = state_of c.args.state.now in
    let x = pos c.args.client in
    note-unread (first_of c.args.system) m c.args.client c.args.numbers.now c.from_residual.result c.in_err-flag.field-0.0 c.from_residual.ensures.1
    (λ h. c.in_err-flag.ensures (subst (λ k. FitsSigned w64 (m k x)) (sym c.noted.ensures) h))

pub returns-then-flag-ne1 : goal.returns-then-flag-ne1
returns-then-flag-ne1 c =
    let m = state_of c.args.state.now in
    let x = pos c.args.client in
    let fits = subst (λ k. FitsSigned w64 (m k x)) c.noted.ensures c.in_ok-flag.ensures.0 in
    let is = c.in_ok-flag.ensures.1 ∙ ap (λ k. m k x) c.noted.ensures in
    none-noted (first_of c.args.system) m c.args.client c.args.numbers.now fits (λ e. c.if-flag-ne1.true (ap (of_z w64) (is ∙ e)))

pub is_row-requires-clause-there : goal.is_row-requires-clause-there
is_row-requires-clause-there c =
    notes-there (first_of c.args.system) (column_count c.args.state.now) (length c.args.numbers.now) c.notes-columns.result c.notes-columns.ensures c.requires.there

pub returns : goal.returns
returns c =
    let first = first_of c.args.system in
    let m = state_of c.args.state.now in
    let x = pos c.args.client in
    let ns = c.args.numbers.now in
    let fits = subst (λ k. FitsSigned w64 (m k x)) c.noted.ensures c.in_ok-flag.ensures.0 in
    let is = c.in_ok-flag.ensures.1 ∙ ap (λ k. m k x) c.noted.ensures in
    let same = to_z-of_z w64 c.in_ok-flag.flag (subst (FitsSigned w64) (sym c.in_ok-flag.ensures.1) c.in_ok-flag.ensures.0) in
    noted-as first m c.args.client ns c.is_row.result fits (sym is ∙ (sym same ∙ ap (to_z w64) c.if-flag-ne1.false))
    (stand_in_row first m c.args.client ns (note_columns first) c.notes-columns.result c.is_row.result c.notes-columns.ensures c.is_row.ensures)
