use Rattle.std.proofs.Common.{◌≡◌, map, drop}
use Rattle.lc_put.specs.PutNumbers.{columns_at, AreColumns}
use Rattle.lc_term.specs.Said.{puts}
use Rattle.lc_table.specs.Tables.{Keeps}
use Rattle.lc_term.specs.UpdateView.{update_of}
use Rattle.lc_object.specs.EdgeView.{edge_of}
use Rattle.lc_rider.specs.Paths.{edge_columns}
use Rattle.lc_rider.proofs.edge.edge_columns.Given as goal

-- the columns so far, with the updates that are left, are those after all
abbrev pub invariant-loop-update : goal.invariant-loop-update
invariant-loop-update l = record {
  kept : Keeps l.fn.terms l.terms;
  are : AreColumns l.terms l.columns.items;
  left : puts (columns_at l.terms l.columns.items) (map update_of (drop l.update-index l.update-items)) ≡ edge_columns (edge_of l.code);
}
