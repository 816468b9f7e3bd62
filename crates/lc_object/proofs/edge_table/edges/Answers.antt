use Rattle.std.proofs.Common.{map}
use Rattle.lc_object.specs.Objects.{object_view}
use Rattle.lc_object.specs.Edges.{edges}
use Rattle.lc_object.specs.EdgeView.{edge_of}
use Rattle.lc_object.proofs.EdgeRows.{edges_more}
use Rattle.lc_object.proofs.edge_table.edges.Goals as goal

pub loop-i-preserved : goal.loop-i-preserved
loop-i-preserved c =
    edges_more (object_view c.args.object.now) c.deref-point-items.result.now c.loop-i.i c.point-item.result (map edge_of c.loop-i.edges.items) (map edge_of c.push_edges.new.edges.items)
    (edges (object_view c.args.object.now)) c.loop-i-test.true c.point-item.is c.in_ok-push_edges.ensures c.loop-i.invariant
