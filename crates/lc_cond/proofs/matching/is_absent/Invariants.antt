use Rattle.std.proofs.Common.{take}
use Rattle.lc_cond.proofs.Columned.{HasNone}
use Rattle.lc_cond.proofs.matching.is_absent.Given as goal

-- no entry so far is of the column
abbrev pub invariant-loop-entry : goal.invariant-loop-entry
invariant-loop-entry l = HasNone l.column.0 (take l.entry-index l.columns)
