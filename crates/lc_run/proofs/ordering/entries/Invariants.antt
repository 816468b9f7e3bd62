use Rattle.std.proofs.Common.{◌≡◌, ℕ, drop, vec_len}
use Rattle.std.specs.Prelude.{reverse}
use Rattle.lc_sound.specs.Happening.{counted, returns_next}
use Rattle.lc_run.specs.Ordering.{order_entries, happenings_of, returns_in}
use Rattle.lc_run.proofs.ordering.entries.Given as goal

-- what counts after this place, the last first, and which clients have a return next
abbrev pub invariant-loop-place : goal.invariant-loop-place
invariant-loop-place l =
    (vec_len l.returns ≡ l.clients)
    × ((c : ℕ) → returns_in l.returns.items c ≡ returns_next c (happenings_of (drop l.place l.happenings)))
    × (reverse (order_entries l.entries.items) ≡ counted (happenings_of (drop l.place l.happenings)))
