use Rattle.std.proofs.Common.{ℕ, [], ap}
use Rattle.lc_term.specs.Syntax.{Column}
use Rattle.lc_rider.specs.Paths.{Path}
use Rattle.lc_rider.proofs.PathsAdded.{has_same}
use Rattle.lc_rider.proofs.edge.path_start.Goals as goal

pub returns-clause-path : goal.returns-clause-path
returns-clause-path c =
    let start : (ℕ → Column) → Path = λ σ. record { columns = σ; facts = []; duties = [] } in
    has_same c.edge_columns.new.terms c.new.result _ _ (c.new.ensures c.edge_columns.new.terms c.in_ok-edge_columns.ensures.are) (ap start c.in_ok-edge_columns.ensures.trees)
