use Rattle.std.proofs.Common.{◌≡◌, ◌+◌, ◌++◌, ◌≤◌, drop}
use Rattle.lc_outline_text.specs.Paths.{stands, path_number, path_at}
use Rattle.lc_outline_text.specs.StoredView.{IsSet, listed_in, ways_of_riders}
use Rattle.lc_outline_text.proofs.path_counts.put_path.Given as goal

-- what is done so far, and then on the path of the digits that are left, is all
abbrev pub invariant-loop-rider : goal.invariant-loop-rider
invariant-loop-rider l = record {
  set : IsSet l.set;
  some : 1 ≤ path_number (ways_of_riders (drop l.rider-index l.riders));
  asked : l.asked + (path_at (ways_of_riders (drop l.rider-index l.riders)) l.left).asked ≡ l.before + (path_at (ways_of_riders l.riders) l.number).asked;
  stored : stands (listed_in l.set ++ (path_at (ways_of_riders (drop l.rider-index l.riders)) l.left).columns) ≡ stands (listed_in l.fn.set ++ (path_at (ways_of_riders l.riders) l.number).columns);
}
