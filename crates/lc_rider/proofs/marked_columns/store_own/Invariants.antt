use Rattle.std.proofs.Common.{◌≡◌, map, drop}
use Rattle.lc_put.specs.PutNumbers.{columns_at, AreColumns, terms_in}
use Rattle.lc_term.specs.Said.{puts, said, at_client}
use Rattle.lc_table.specs.Tables.{Keeps}
use Rattle.lc_term.specs.View.{term_of}
use Rattle.lc_rider.proofs.marked_columns.store_own.Given as goal

-- the columns so far, with the cells that are left, are those after all
abbrev pub invariant-loop-i : goal.invariant-loop-i
invariant-loop-i l =
    let σ = columns_at l.fn.terms l.before.columns.now in
    let τ = terms_in l.fn.terms l.before.variables.now in
    record {
      kept : Keeps l.initial.terms l.terms;
      are : AreColumns l.terms l.columns.items;
      left : puts (columns_at l.terms l.columns.items) (map (said σ τ) (at_client (map (λ c. c.0) (drop l.i l.cells)) (map term_of (drop l.i l.values))))
          ≡ puts (columns_at l.fn.terms l.fn.columns.items) (map (said σ τ) (at_client (map (λ c. c.0) l.cells) (map term_of l.values)));
    }
