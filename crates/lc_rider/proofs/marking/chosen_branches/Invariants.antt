use Rattle.std.proofs.Common.{◌≡◌, ◌++◌, drop}
use Rattle.lc_seq.specs.Specification.{chosen}
use Rattle.lc_seq.specs.SpecView.{branches_of}
use Rattle.lc_rider.specs.MarkView.{branches_at}
use Rattle.lc_rider.specs.RiderView.{choosing_of}
use Rattle.lc_rider.proofs.marking.chosen_branches.Given as goal

-- the branches so far, with those that are left of the others, are all
abbrev pub invariant-loop-branch : goal.invariant-loop-branch
invariant-loop-branch l =
    branches_at l.left.items ++ chosen (choosing_of l.by) (branches_of (drop l.branch-index l.branches)) ≡ chosen (choosing_of l.by) (branches_of l.branches)
