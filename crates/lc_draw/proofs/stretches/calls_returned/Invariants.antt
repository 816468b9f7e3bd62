use Rattle.std.proofs.Common.{◌≡◌, ℕ, take}
use Rattle.lc_history.specs.History.{count, is_return}
use Rattle.lc_history.specs.View.{events_of}
use Rattle.lc_draw.specs.Counting.{turns_of}
use Rattle.lc_draw.proofs.stretches.calls_returned.Given as goal

-- those of the events so far are counted
abbrev pub invariant-loop-event : goal.invariant-loop-event
invariant-loop-event l = (c : ℕ) → turns_of l.turns.entries c ≡ count (is_return c) (events_of (take l.event-index l.events))
