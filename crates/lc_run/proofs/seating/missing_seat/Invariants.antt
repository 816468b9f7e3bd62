use Rattle.std.proofs.Common.{◌≡◌, ℕ, ◌<◌, true}
use Rattle.lc_run.specs.Seated.{has_seat}
use Rattle.lc_run.proofs.seating.missing_seat.Given as goal

-- the seats of the clients so far are there
abbrev pub invariant-loop-client : goal.invariant-loop-client
invariant-loop-client g l = (d : ℕ) → d < l.client → has_seat d l.seats ≡ true
