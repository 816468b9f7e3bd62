use Rattle.std.proofs.Common.{sym, subst}
use Rattle.lc_sexp.specs.Shown.{rest_of, number_of, owner_of}
use Rattle.lc_reading.proofs.Combined.{ended_read}
use Rattle.lc_reading.specs.Parts.{tree_of, place_of}
use Rattle.lc_reading.specs.Readings.{both}
use Rattle.lc_reading.specs.Results.{IsReading}
use Rattle.lc_rider_text.proofs.Parts.{lin_other_found}
use Rattle.lc_rider_text.specs.Choices.{in_order_reading}
use Rattle.lc_rider_text.specs.KnownView.{known_view}
use Rattle.lc_rider_text.specs.Riders.{other_reading, ways_named, mark_of_other}
use Rattle.lc_rider_text.specs.Seen.{deed_of}
use Rattle.lc_rider_text.proofs.rider.read_lin_other.Goals as goal

pub returns : goal.returns
returns g c =
    let known = known_view c.args.known in
    let names = g.S.Scope.names c.args.scope.now in
    let t = c.in_ok-client.client in
    let u = c.in_ok-client.operation in
    let rest = c.in_ok-client.rest in
    let call = other_reading known names (place_of t) (tree_of t) (place_of u) (tree_of u) in
    let by = in_order_reading (ways_named known (tree_of u)) (owner_of c.args.list) in
    subst (λ r. IsReading deed_of r c.ended.result) (sym (lin_other_found known names c.args.list rest t u c.in_ok-client.ensures))
    (rw c.ended.ensures
    (ended_read deed_of (number_of rest) (rest_of rest) (both mark_of_other call by) c.made_other.result
    (c.made_other.ensures call by c.read_other-call.ensures (rw (c.ways_named.ensures, c.owner.ensures) at c.read_in_order-by.ensures))))
