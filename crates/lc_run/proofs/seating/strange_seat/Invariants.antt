use Rattle.std.proofs.Common.{ℕ, ◌<◌, slice_index_or}
use Rattle.lc_run.specs.LabelView.{labels_of}
use Rattle.lc_run.specs.Seated.{HasOwn}
use Rattle.lc_run.specs.declared.held.Seat.{Seat}
use Rattle.lc_run.proofs.seating.strange_seat.Given as goal

-- the seats so far have their clients' labels
abbrev pub invariant-loop-seat : goal.invariant-loop-seat
invariant-loop-seat g l = (k : ℕ) (d : Seat g.row.J.Denot) → k < l.seat-index → HasOwn (labels_of l.labels) (slice_index_or l.seats k d)
