use Rattle.lc_table.specs.Tables.{AreFormulas}
use Rattle.lc_houdini.proofs.implied.unmark_at.Given as goal

-- what is known are formulas
abbrev pub invariant-loop-conjunct : goal.invariant-loop-conjunct
invariant-loop-conjunct l = AreFormulas l.fn.terms l.known.items
