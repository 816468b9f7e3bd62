use Rattle.std.proofs.Common.{◌≡◌, map, drop}
use Rattle.lc_put.specs.PutNumbers.{columns_at, AreColumns, terms_in}
use Rattle.lc_term.specs.Said.{puts, said}
use Rattle.lc_table.specs.Tables.{Keeps}
use Rattle.lc_term.specs.UpdateView.{updates_of}
use Rattle.lc_rider.proofs.marked_columns.store_updates.Given as goal

-- the columns so far, with the updates that are left, are those after all
abbrev pub invariant-loop-update : goal.invariant-loop-update
invariant-loop-update l =
    let σ = columns_at l.fn.terms l.before.columns.now in
    let τ = terms_in l.fn.terms l.before.variables.now in
    record {
      kept : Keeps l.fn.terms l.terms;
      are : AreColumns l.terms l.columns.items;
      left : puts (columns_at l.terms l.columns.items) (map (said σ τ) (updates_of (drop l.update-index l.updates))) ≡ puts (columns_at l.fn.terms l.fn.columns.items) (map (said σ τ) (updates_of l.updates));
    }
