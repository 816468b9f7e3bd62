use Rattle.std.proofs.Common.{◌≡◌, ◌*◌, ◌≤◌, drop}
use Rattle.lc_outline_text.specs.Paths.{path_number}
use Rattle.lc_outline_text.specs.StoredView.{ways_of_riders}
use Rattle.lc_outline_text.specs.Views.{capped, count_cap}
use Rattle.lc_outline_text.proofs.riders.path_number.Given as goal

-- the ways past the riders so far, times the paths past those that are left
abbrev pub invariant-loop-rider : goal.invariant-loop-rider
invariant-loop-rider l = record {
  few : l.number ≤ count_cap;
  whole : capped (l.number * path_number (ways_of_riders (drop l.rider-index l.riders))) ≡ capped (path_number (ways_of_riders l.riders));
}
