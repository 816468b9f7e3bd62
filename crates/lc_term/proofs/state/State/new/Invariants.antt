use Rattle.std.proofs.Common.{◌≡◌, take, map}
use Rattle.lc_term.specs.State.{cells_of, initial_columns}
use Rattle.lc_term.proofs.state.State.new.Given as goal

-- the columns so far are initial
abbrev pub invariant-loop-slope : goal.invariant-loop-slope
invariant-loop-slope l = map cells_of l.columns.items ≡ initial_columns (take l.slope-index l.initial')
