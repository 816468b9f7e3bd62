-- Paths that the code adds to those that it has.
use Rattle.std.specs.Prelude.{◌≡◌, List, ◌++◌}
use Rattle.lc_table.specs.NodeTables.{Table}
use Rattle.lc_rider.specs.Paths as S
use Rattle.lc_rider.specs.PathView.{HavePaths}
use Rattle.lc_rider.specs.declared.path.Path.{Path}

-- the paths before, followed by others, which are these in a table
pub record AddsPaths (before : List Path) (ts : Table) (now : List Path) (said : List S.Path) : Type 0 where
  pub added : List Path
  pub behind : now ≡ before ++ added
  pub have : HavePaths ts added said
