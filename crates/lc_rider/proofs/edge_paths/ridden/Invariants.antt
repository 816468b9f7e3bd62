use Rattle.std.proofs.Common.{◌≡◌, map, drop}
use Rattle.lc_term.specs.Lists.{concat_map}
use Rattle.lc_put.specs.PutNumbers.{terms_in}
use Rattle.lc_table.specs.Tables.{Keeps}
use Rattle.lc_seq.specs.TextView.{specification_of}
use Rattle.lc_action.specs.ActionView.{first_of}
use Rattle.lc_rider.specs.Paths.{paths}
use Rattle.lc_rider.specs.PathView.{path_in, ArePaths}
use Rattle.lc_rider.specs.RiderView.{riders_of}
use Rattle.lc_rider.proofs.edge_paths.ridden.Given as goal

-- the paths so far, with the riders that are left, are those of all riders
abbrev pub invariant-loop-number : goal.invariant-loop-number
invariant-loop-number l =
    let operations = (specification_of l.riding.specification.now).operations in
    let first = first_of l.riding.system in
    let τ = terms_in l.fn.terms l.riding.variables.now in
    record {
      kept : Keeps l.fn.terms l.terms;
      are : ArePaths l.terms l.paths.items;
      left : concat_map (paths operations first l.number l.riding.operation.0 τ (riders_of (drop l.number l.riders))) (map (path_in l.terms) l.paths.items)
          ≡ paths operations first 0 l.riding.operation.0 τ (riders_of l.riders) (path_in l.fn.terms l.fn.start);
    }
