use Rattle.std.proofs.Common.{map, ap, sym, ◌∙◌}
use Rattle.lc_outline_text.specs.Declarations.{branches_in, form_at}
use Rattle.lc_outline_text.specs.DeclarationsView.{declarations_view}
use Rattle.lc_outline_text.specs.StoredView.{rows_view, marked_at}
use Rattle.lc_outline_text.proofs.StoredThere.{with_asked, rows_ways, branches_ways, branches_at}
use Rattle.lc_outline_text.proofs.stored.marked_by_branches.Goals as goal

pub returns : goal.returns
returns c = λ asked.
    let d = declarations_view c.args.declarations.now in
    let is_note = c.args.is_note in
    let o = c.args.operation in
    rows_ways asked c.rows_at.result.now
    ∙ ap (map (with_asked asked)) (c.rows_at.ensures ∙ ap (λ rows. marked_at is_note (map rows_view rows) o) c.deref.ensures.value ∙ ap (λ all. marked_at is_note all o) c.requires.branches
    ∙ branches_at is_note d.declared.columns d.operations o)
    ∙ sym (branches_ways asked is_note d.declared.columns (branches_in (form_at d.operations o)))
