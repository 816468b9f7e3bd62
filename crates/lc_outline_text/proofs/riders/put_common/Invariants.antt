use Rattle.std.proofs.Common.{◌≡◌, ◌+◌, ◌++◌, drop}
use Rattle.lc_outline_text.specs.Paths.{stands, common_way}
use Rattle.lc_outline_text.specs.StoredView.{IsSet, listed_in, ways_of_riders}
use Rattle.lc_outline_text.proofs.riders.put_common.Given as goal

-- what is done so far, and then past the riders that are left, is all
abbrev pub invariant-loop-rider : goal.invariant-loop-rider
invariant-loop-rider l = record {
  set : IsSet l.set;
  asked : l.asked + (common_way (ways_of_riders (drop l.rider-index l.riders))).asked ≡ l.before + (common_way (ways_of_riders l.riders)).asked;
  stored : stands (listed_in l.set ++ (common_way (ways_of_riders (drop l.rider-index l.riders))).columns) ≡ stands (listed_in l.fn.set ++ (common_way (ways_of_riders l.riders)).columns);
}
