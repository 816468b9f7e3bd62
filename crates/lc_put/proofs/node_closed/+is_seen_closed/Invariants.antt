use Rattle.std.proofs.Common.{◌≡◌, ◌≤◌, slice_get, is_some, true}
use Rattle.lc_put.specs.NodeClosed.{is_closed_part}
use Rattle.lc_put.specs.NodeReplacement.{part_in}
use Rattle.lc_table.specs.Tables.{parts}
use Rattle.lc_put.proofs.node_closed.+is_seen_closed.Given as goal

abbrev pub decreases-is_seen_closed : goal.decreases-is_seen_closed
decreases-is_seen_closed l = l.part

-- the rest is no later, and if no bound variable occurs in it, none occurs in the whole
abbrev pub invariant-stores : goal.invariant-stores
invariant-stores l =
    (l.rest ≤ l.fn.part) × (is_some (slice_get (parts l.table) l.rest) ≡ true) ×
    (is_closed_part (part_in l.table l.rest) ≡ true → is_closed_part (part_in l.table l.fn.part) ≡ true)

abbrev pub decreases-stores : goal.decreases-stores
decreases-stores l = l.rest
