use Rattle.std.specs.List.{All}
use Rattle.lc_table.specs.Tables.{IsTerm}
use Rattle.lc_linear.proofs.shared.roots_of.Given as goal

-- all are terms of the table
abbrev pub invariant-loop-term : goal.invariant-loop-term
invariant-loop-term l = All (IsTerm l.terms) l.roots.items
