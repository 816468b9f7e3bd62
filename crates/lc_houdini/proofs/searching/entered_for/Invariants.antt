use Rattle.lc_table.specs.Tables.{Keeps}
use Rattle.lc_houdini.proofs.searching.entered_for.Given as goal

-- the table keeps what it had
abbrev pub invariant-loop-condition : goal.invariant-loop-condition
invariant-loop-condition l = Keeps l.fn.terms l.terms
