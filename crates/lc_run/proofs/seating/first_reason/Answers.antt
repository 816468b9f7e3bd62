use Rattle.std.proofs.Common.{subst, rules}
use Rattle.lc_run.specs.Seated.{AreAllThere, IsFirstStrange}
use Rattle.lc_run.proofs.seating.first_reason.Goals as goal

pub returns-in-Some-strange_seat : goal.returns-in-Some-strange_seat
returns-in-Some-strange_seat g c =
    let there : AreAllThere c.args.clients c.args.seats.now = search rules in
    (there, c.is_of.ensures.0 c.if-not-is_of.false, subst (λ ls. IsFirstStrange ls c.args.seats.now c.in-Some-strange_seat.client) c.labels.ensures c.in-Some-strange_seat.ensures)
