use Rattle.std.proofs.Common.{◌≡◌, drop, map, ◌++◌}
use Rattle.lc_object.specs.View.{point_of}
use Rattle.lc_object.specs.Objects.{object_view}
use Rattle.lc_object.specs.Edges.{edges_from, edges}
use Rattle.lc_object.specs.EdgeView.{edge_of}
use Rattle.lc_object.proofs.edge_table.edges.Given as goal

-- the edges so far, with those of the points that are left, are all
abbrev pub invariant-loop-i : goal.invariant-loop-i
invariant-loop-i l = map edge_of l.edges.items ++ edges_from (object_view l.object) l.i (map point_of (drop l.i l.point-items)) ≡ edges (object_view l.object)
