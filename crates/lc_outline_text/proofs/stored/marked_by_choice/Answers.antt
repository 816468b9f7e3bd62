use Rattle.std.proofs.Common.{◌≡◌, [], ◌∷◌, map, ap, sym, ◌∙◌}
use Rattle.lc_sexp.specs.Trees.{none}
use Rattle.lc_object_text.specs.ObjectNames.{first_text, later}
use Rattle.lc_reading.specs.Listed.{place_of}
use Rattle.lc_outline_text.specs.Declarations.{choices_in, form_at}
use Rattle.lc_outline_text.specs.DeclarationsView.{declarations_view}
use Rattle.lc_outline_text.specs.StoredView.{rows_view, marked_at, marked_in, marked_kept}
use Rattle.lc_outline_text.proofs.StoredThere.{with_asked, rows_ways, both_in, choices_at, chosen_row, no_choice}
use Rattle.lc_outline_text.proofs.stored.marked_by_choice.Goals.{in_default-via-in-Some+else-place-rows, in_default-via-in_default}
use Rattle.lc_outline_text.proofs.stored.marked_by_choice.Goals as goal

pub returns-in-Some : goal.returns-in-Some
returns-in-Some c = λ asked.
    let d = declarations_view c.args.declarations.now in
    let is_note = c.args.is_note in
    let o = c.args.operation in
    let choices = choices_in (form_at d.operations o) in
    let g = marked_kept is_note d.declared.columns in
    let rows = c.rows_at-rows.ensures ∙ ap (λ rows. marked_at is_note (map rows_view rows) o) c.deref.ensures.value ∙ ap (λ all. marked_at is_note all o) c.requires.choices ∙ choices_at is_note d.declared.columns d.operations o in
    chosen_row asked g c.rows_at-rows.result.now choices c.in-Some.place rows c.if-place-rows.true
    ∙ ap (λ q. (asked, g (later (later (form_at choices q)))) ∷ []) (c.in-Some.ensures)

pub returns-in_default : goal.returns-in_default
returns-in_default c = λ asked.
    let d = declarations_view c.args.declarations.now in
    let is_note = c.args.is_note in
    let o = c.args.operation in
    let choices = choices_in (form_at d.operations o) in
    let named = place_of (map first_text choices) c.args.name.now in
    let g = marked_kept is_note d.declared.columns in
    let rows = c.rows_at-rows.ensures ∙ ap (λ rows. marked_at is_note (map rows_view rows) o) c.deref.ensures.value ∙ ap (λ all. marked_at is_note all o) c.requires.choices ∙ choices_at is_note d.declared.columns d.operations o in
    let nothing : form_at choices named ≡ none = elim c.in_default.branch [
      | in_default-via-in-Some+else-place-rows w ↦ ap (form_at choices) (sym w.in-Some.ensures) ∙ no_choice g c.rows_at-rows.result.now choices w.in-Some.place rows w.if-place-rows.false
      | in_default-via-in_default w ↦ ap (form_at choices) (sym c.choice_place.ensures ∙ w.in_default.is)
    ] in
    rows_ways asked c.rows_for.result.now
    ∙ ap (map (with_asked asked)) (c.rows_for.ensures ∙ ap (marked_in is_note) c.requires.nothing ∙ both_in is_note d.declared.columns (none ∷ []))
    ∙ ap (λ ts. (asked, g (later (later ts))) ∷ []) (sym nothing)
