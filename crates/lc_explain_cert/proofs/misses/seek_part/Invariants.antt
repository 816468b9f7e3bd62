use Rattle.lc_table.specs.Tables.{Keeps}
use Rattle.lc_explain_cert.proofs.misses.seek_part.Given as goal

-- each number keeps its tree
abbrev pub invariant-loop-place : goal.invariant-loop-place
invariant-loop-place l = Keeps l.fn.terms l.terms
