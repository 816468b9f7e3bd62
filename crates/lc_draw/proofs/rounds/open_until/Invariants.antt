use Rattle.std.proofs.Common.{◌≡◌, take}
use Rattle.lc_history.specs.History.{count, is_return}
use Rattle.lc_history.specs.View.{events_of}
use Rattle.lc_draw.specs.Stretches.{is_open_at, up_to_last}
use Rattle.lc_draw.proofs.rounds.open_until.Given as goal

-- the returns so far are counted, and the last event with which the call is open is known
abbrev pub invariant-loop-place : goal.invariant-loop-place
invariant-loop-place l =
    (l.returned ≡ count (is_return l.client) (events_of (take l.place l.events))) × (l.until ≡ up_to_last (is_open_at (events_of l.events) l.client l.turn) l.place)
