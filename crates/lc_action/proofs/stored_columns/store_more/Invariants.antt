use Rattle.std.proofs.Common.{◌≡◌, map, drop}
use Rattle.lc_term.specs.Said.{puts, said}
use Rattle.lc_term.specs.View.{term_of}
use Rattle.lc_term.specs.UpdateView.{updates_of}
use Rattle.lc_action.specs.Telling.{columns_in}
use Rattle.lc_action.proofs.stored_columns.store_more.Given as goal

-- the columns so far, with the updates that are left, are those after all
abbrev pub invariant-loop-update : goal.invariant-loop-update
invariant-loop-update l =
    let σ = columns_in l.before.columns.now in
    let τ = map term_of l.before.variables.now in
    puts (columns_in l.stored.items) (map (said σ τ) (updates_of (drop l.update-index l.updates))) ≡ puts (columns_in l.fn.stored.items) (map (said σ τ) (updates_of l.updates))
