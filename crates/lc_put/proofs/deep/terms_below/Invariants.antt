use Rattle.lc_put.specs.Deep.{AreFound}
use Rattle.lc_put.proofs.deep.terms_below.Given as goal

-- the part that is found is in the table, below the part
abbrev pub invariant-loop-place : goal.invariant-loop-place
invariant-loop-place g l = AreFound l.table l.part l.found
