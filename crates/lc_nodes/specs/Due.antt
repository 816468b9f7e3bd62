-- What is still to be taken of a table.
use Rattle.lc_nodes.specs.declared.nodes.taking.Due.{Due}
use Rattle.lc_nodes.specs.declared.nodes.taking.Due.TheVariants.{Term, Column}
use Rattle.lc_table.specs.NodeTables.{Table}
use Rattle.lc_table.specs.Tables.{IsTerm, IsColumn}

-- it is in the table
abbrev pub IsDue : Table → Due → Type 0
IsDue ts (Term t) = IsTerm ts t
IsDue ts (Column c) = IsColumn ts c
