use Rattle.std.proofs.Common.{◌≡◌, ◌≤◌, ◌+◌, slice_range}
use Rattle.lc_place.specs.Excerpt.{characters_in}
use Rattle.lc_place.proofs.Windows.{columns_before}
use Rattle.lc_place.proofs.place.line_start.Given as goal

abbrev pub invariant-loop-from : goal.invariant-loop-from
invariant-loop-from l = record {
  before : l.from ≤ l.offset;
  counted : columns_before l.bytes l.from + characters_in (slice_range l.bytes l.from l.offset) ≡ columns_before l.bytes l.offset;
}

abbrev pub decreases-loop-from : goal.decreases-loop-from
decreases-loop-from l = l.from
