use Rattle.std.proofs.Common.{◌≡◌, ◌++◌, drop}
use Rattle.lc_outline_text.specs.Paths.{branching}
use Rattle.lc_outline_text.specs.StoredView.{ways_of_riders}
use Rattle.lc_outline_text.proofs.riders.branching.Given as goal

-- those so far, and those among the riders that are left, are all
abbrev pub invariant-loop-rider : goal.invariant-loop-rider
invariant-loop-rider l = ways_of_riders l.those.items ++ branching (ways_of_riders (drop l.rider-index l.riders)) ≡ branching (ways_of_riders l.riders)
