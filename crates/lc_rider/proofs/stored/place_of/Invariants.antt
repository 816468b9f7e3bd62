use Rattle.std.proofs.Common.{take}
use Rattle.lc_rider.specs.Stored.{HasNone}
use Rattle.lc_rider.proofs.stored.place_of.Given as goal

-- no entry so far is of the column
abbrev pub invariant-loop-place : goal.invariant-loop-place
invariant-loop-place l = HasNone l.column.0 (take l.place l.columns)
