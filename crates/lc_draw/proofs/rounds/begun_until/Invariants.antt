use Rattle.std.proofs.Common.{◌≡◌, ℕ, take}
use Rattle.lc_history.specs.History.{count, is_call}
use Rattle.lc_history.specs.View.{events_of}
use Rattle.lc_draw.specs.Counting.{has_turn, turns_of}
use Rattle.lc_draw.specs.Stretches.{begins_such_at, up_to_last}
use Rattle.lc_draw.proofs.rounds.begun_until.Given as goal

-- the calls so far are counted, and the last that passes is known
abbrev pub invariant-loop-place : goal.invariant-loop-place
invariant-loop-place l =
    ((c : ℕ) → turns_of l.turns.entries c ≡ count (is_call c) (events_of (take l.place l.events)))
    × (l.until ≡ up_to_last (begins_such_at (has_turn l.first.entries) (events_of l.events)) l.place)
