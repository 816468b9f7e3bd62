use Rattle.std.proofs.Common.{◌≡◌, map, drop}
use Rattle.lc_put.specs.PutNumbers.{columns_at, AreColumns}
use Rattle.lc_table.specs.Tables.{Keeps}
use Rattle.lc_term.specs.Said.{puts, said, after}
use Rattle.lc_term.specs.Syntax.{Base}
use Rattle.lc_term.specs.UpdateView.{updates_of}
use Rattle.lc_term.specs.View.{term_of}
use Rattle.lc_cond.proofs.after_updates.entered_after.Given as goal

-- the columns so far, with the updates that are left, are those after all
abbrev pub invariant-loop-update : goal.invariant-loop-update
invariant-loop-update l = record {
  kept : Keeps l.fn.terms l.terms;
  are : AreColumns l.terms l.columns.items;
  left : puts (columns_at l.terms l.columns.items) (map (said Base (map term_of l.variables)) (updates_of (drop l.update-index l.updates))) ≡ after Base (map term_of l.variables) (updates_of l.updates);
}
