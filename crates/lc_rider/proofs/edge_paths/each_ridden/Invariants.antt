use Rattle.std.proofs.Common.{◌≡◌, ◌++◌, List, [], map}
use Rattle.lc_term.specs.Lists.{concat_map}
use Rattle.lc_put.specs.PutNumbers.{terms_in}
use Rattle.lc_table.specs.Tables.{Keeps}
use Rattle.lc_seq.specs.TextView.{specification_of}
use Rattle.lc_action.specs.ActionView.{first_of}
use Rattle.lc_rider.specs.Paths.{Path, rider_paths}
use Rattle.lc_rider.specs.PathView.{path_in, ArePaths}
use Rattle.lc_rider.specs.PathsAdded.{AddsPaths}
use Rattle.lc_rider.specs.RiderView.{rider_of}
use Rattle.lc_rider.proofs.edge_paths.each_ridden.Given as goal

-- the paths of the paths so far, with those of the paths that are left, are all
abbrev pub invariant-loop-path : goal.invariant-loop-path
invariant-loop-path l =
    let each : Path → List Path =
    rider_paths (specification_of l.turn.riding.specification.now).operations (first_of l.turn.riding.system) l.turn.number l.turn.riding.operation.0 (terms_in l.fn.terms l.turn.riding.variables.now) (rider_of l.turn.rider.now) in
    record {
      kept : Keeps l.fn.terms l.terms;
      left : ArePaths l.fn.terms l.path-iterator.rest.items;
      paths : (done : List Path) × AddsPaths [] l.terms l.ridden.items done
          × (done ++ concat_map each (map (path_in l.fn.terms) l.path-iterator.rest.items) ≡ concat_map each (map (path_in l.fn.terms) l.fn.paths.items));
    }
