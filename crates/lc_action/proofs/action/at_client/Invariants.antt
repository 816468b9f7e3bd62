use Rattle.std.proofs.Common.{◌≡◌, drop, map, ◌++◌}
use Rattle.lc_term.specs.Said.{at_client}
use Rattle.lc_term.specs.View.{term_of}
use Rattle.lc_term.specs.UpdateView.{updates_of}
use Rattle.lc_action.proofs.OwnUpdates.{numbers_of}
use Rattle.lc_action.proofs.action.at_client.Given as goal

-- the updates so far, with those that are left, are all
abbrev pub invariant-loop-i : goal.invariant-loop-i
invariant-loop-i l = updates_of l.updates.items ++ at_client (numbers_of (drop l.i l.columns)) (map term_of (drop l.i l.values)) ≡ at_client (numbers_of l.columns) (map term_of l.values)
