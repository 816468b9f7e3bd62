use Rattle.std.specs.List.{All}
use Rattle.lc_nodes.specs.Due.{IsDue}
use Rattle.lc_nodes.proofs.nodes.Nodes.take_term.Given as goal

-- what is in `due` and what waits is in the table
abbrev pub invariant-loop : goal.invariant-loop
invariant-loop l = IsDue l.terms l.due × All (IsDue l.terms) l.waiting.items
