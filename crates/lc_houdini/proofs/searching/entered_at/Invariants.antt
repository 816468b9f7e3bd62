use Rattle.lc_table.specs.Tables.{Keeps}
use Rattle.lc_houdini.proofs.searching.entered_at.Given as goal

-- the table keeps what it had
abbrev pub invariant-loop-formula : goal.invariant-loop-formula
invariant-loop-formula l = Keeps l.fn.terms l.terms
