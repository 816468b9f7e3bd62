use Rattle.std.specs.List.{All}
use Rattle.lc_table.specs.Tables.{IsTerm}
use Rattle.lc_linear.proofs.shared.summands_of.Given as goal

-- all are terms of the table
abbrev pub invariant-loop-place : goal.invariant-loop-place
invariant-loop-place l = All (IsTerm l.terms) l.nodes.items
