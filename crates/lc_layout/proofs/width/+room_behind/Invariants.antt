use Rattle.std.proofs.Common.{◌≡◌, ◌+◌, ◌≤◌, length}
use Rattle.lc_sexp.specs.Trees.{item_count_of_all}
use Rattle.lc_sexp.specs.Printed.{printed_items}
use Rattle.lc_sexp.specs.Shown.{rest_of}
use Rattle.lc_layout.proofs.Widths.{taken}
use Rattle.lc_layout.proofs.width.+room_behind.Given as goal

abbrev pub decreases-room_behind : goal.decreases-room_behind
decreases-room_behind l = item_count_of_all (rest_of l.items)

abbrev pub invariant-loop-item : goal.invariant-loop-item
invariant-loop-item l = record {
  counted : l.left + length (printed_items (rest_of l.items)) ≡ l.room + taken l.gap (rest_of l.rest);
  fewer : item_count_of_all (rest_of l.rest) ≤ item_count_of_all (rest_of l.items);
}

abbrev pub decreases-loop-item : goal.decreases-loop-item
decreases-loop-item l = item_count_of_all (rest_of l.rest)
