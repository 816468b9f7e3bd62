use Rattle.std.proofs.Common.{◌+◌, ◌∙◌, sym, ap, map, drop}
use Rattle.lc_term.specs.Said.{put, puts, said}
use Rattle.lc_term.specs.View.{term_of}
use Rattle.lc_term.specs.UpdateView.{updates_of}
use Rattle.lc_action.specs.Telling.{columns_in}
use Rattle.lc_action.proofs.Entries.{puts_more}
use Rattle.lc_action.proofs.stored_columns.store_more.Goals as goal

pub loop-update-preserved : goal.loop-update-preserved
loop-update-preserved c =
    let σ = columns_in c.args.before.columns.now in
    let τ = map term_of c.args.before.variables.now in
    let us = c.args.updates.now in
    let i = c.loop-update.update-index in
    let u = c.update-item.result in
    ap (λ ρ. puts ρ (map (said σ τ) (updates_of (drop (i + 1) us))))
    (c.in_ok-stored.ensures ∙ (λ j. put (columns_in c.loop-update.stored.items) (record { column = u.column.0; index = c.in_ok-index.ensures j; value = c.in_ok-value.ensures j })))
    ∙ sym (puts_more σ τ us i u (columns_in c.loop-update.stored.items) c.loop-update-test.true c.update-item.is)
    ∙ c.loop-update.invariant
