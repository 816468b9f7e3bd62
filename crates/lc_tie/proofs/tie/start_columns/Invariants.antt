use Rattle.std.proofs.Common.{◌≡◌, map, take}
use Rattle.lc_term.specs.View.{column_of}
use Rattle.lc_tie.specs.Tie.{affine_of}
use Rattle.lc_tie.proofs.tie.start_columns.Given as goal

-- the columns so far
abbrev pub invariant-loop-slope : goal.invariant-loop-slope
invariant-loop-slope l = map column_of l.columns.items ≡ map affine_of (take l.slope-index l.numbers)
