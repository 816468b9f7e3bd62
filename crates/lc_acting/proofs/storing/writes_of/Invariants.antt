use Rattle.std.proofs.Common.{take}
use Rattle.lc_term.specs.State.{state_of, column_count}
use Rattle.lc_term.specs.UpdateView.{updates_of, writes_view}
use Rattle.lc_acting.proofs.Stored.{AreStored}
use Rattle.lc_acting.proofs.storing.writes_of.Given as goal

-- what the updates so far store
abbrev pub invariant-loop-update : goal.invariant-loop-update
invariant-loop-update l = AreStored (column_count l.state) (state_of l.state) l.env.values.items (updates_of (take l.update-index l.updates)) (writes_view l.writes.items)
