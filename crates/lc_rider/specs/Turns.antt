-- The next rider, and the paths after it.
use Rattle.std.specs.Prelude.{List}
use Rattle.lc_table.specs.NodeTables.{Table}
use Rattle.lc_put.specs.PutNumbers.{terms_in, AreTerms}
use Rattle.lc_seq.specs.TextView.{specification_of}
use Rattle.lc_action.specs.ActionView.{first_of}
use Rattle.lc_rider.specs.Paths as S
use Rattle.lc_rider.specs.PathView.{IsPath}
use Rattle.lc_rider.specs.RiderView.{rider_of}
use Rattle.lc_rider.specs.declared.edge_paths.Turn.{Turn}
use Rattle.lc_rider.specs.declared.path.Path.{Path}

-- the variables of the edge and the path before the rider are of the table
pub record IsBefore (ts : Table) (turn : Turn) (before : Path) : Type 0 where
  pub path : IsPath ts before
  pub variables : AreTerms ts turn.riding.variables.now

-- the paths after what the rider does, and those after the rider, for a path before it
abbrev pub paths_of_deed : Table → Turn → S.Path → List S.Path
paths_of_deed ts turn p =
    S.deed_paths (specification_of turn.riding.specification.now).operations (first_of turn.riding.system) turn.number turn.riding.operation.0
    (terms_in ts turn.riding.variables.now) (rider_of turn.rider.now).deed p

abbrev pub paths_of_rider : Table → Turn → S.Path → List S.Path
paths_of_rider ts turn p =
    S.rider_paths (specification_of turn.riding.specification.now).operations (first_of turn.riding.system) turn.number turn.riding.operation.0
    (terms_in ts turn.riding.variables.now) (rider_of turn.rider.now) p
