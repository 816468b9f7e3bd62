use Rattle.std.proofs.Common.{take}
use Rattle.lc_history.specs.View.{events_of}
use Rattle.lc_order.specs.Rosters.{IsRosterOf}
use Rattle.lc_order.proofs.roster.roster_of.Given as goal

abbrev pub invariant-loop-place : goal.invariant-loop-place
invariant-loop-place l = IsRosterOf (take l.place (events_of l.events)) l.roster
