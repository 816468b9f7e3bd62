use Rattle.std.proofs.Common.{◌≡◌, drop}
use Rattle.lc_run.specs.Seated.{has_seat}
use Rattle.lc_run.proofs.seating.has_seat.Given as goal

-- the seat is there exactly if it is among the remaining ones
abbrev pub invariant-loop-seat : goal.invariant-loop-seat
invariant-loop-seat g l = has_seat l.client (drop l.seat-index l.seats) ≡ has_seat l.client l.fn.seats
