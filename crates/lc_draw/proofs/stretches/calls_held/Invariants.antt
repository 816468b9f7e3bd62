use Rattle.std.proofs.Common.{◌≡◌, ℕ, ◌++◌, [], drop, take}
use Rattle.lc_history.specs.History.{count, is_call}
use Rattle.lc_history.specs.View.{events_of}
use Rattle.lc_draw.specs.Counting.{is_between, turns_of}
use Rattle.lc_draw.specs.Stretches.{such_calls}
use Rattle.lc_draw.proofs.stretches.calls_held.Given as goal

-- the calls so far are counted, and what is said of them, with those behind, is all
abbrev pub invariant-loop-event : goal.invariant-loop-event
invariant-loop-event l =
    let test = is_between l.stretch.begun.entries l.stretch.returned.entries in
    ((c : ℕ) → turns_of l.turns.entries c ≡ count (is_call c) (events_of (take l.event-index l.events)))
    × (l.held.items ++ such_calls test (events_of (take l.event-index l.events)) (events_of (drop l.event-index l.events)) ≡ such_calls test [] (events_of l.events))
