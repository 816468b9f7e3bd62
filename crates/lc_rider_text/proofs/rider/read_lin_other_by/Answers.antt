use Rattle.std.proofs.Common.{sym, subst}
use Rattle.lc_sexp.specs.Shown.{rest_of, number_of, owner_of}
use Rattle.lc_reading.specs.Parts.{tree_of, place_of}
use Rattle.lc_reading.specs.Results.{IsReading}
use Rattle.lc_rider_text.proofs.Parts.{lin_other_by_found}
use Rattle.lc_rider_text.specs.Choices.{by_reading}
use Rattle.lc_rider_text.specs.KnownView.{known_view}
use Rattle.lc_rider_text.specs.Riders.{other_reading, ways_named}
use Rattle.lc_rider_text.specs.Seen.{deed_of}
use Rattle.lc_rider_text.proofs.rider.read_lin_other_by.Goals as goal

pub returns : goal.returns
returns g c =
    let known = known_view c.args.known in
    let names = g.S.Scope.names c.args.scope.now in
    let t = c.in_ok-client.client in
    let u = c.in_ok-operation.operation in
    let rest = c.next_part-2.new.list in
    subst (λ r. IsReading deed_of r c.made_other.result)
    (sym (lin_other_by_found known names c.args.list c.next_part.new.list rest t u c.in_ok-client.ensures c.in_ok-operation.ensures))
    (c.made_other.ensures (other_reading known names (place_of t) (tree_of t) (place_of u) (tree_of u))
    (by_reading names (ways_named known (tree_of u)) (owner_of rest) (number_of rest) (rest_of rest)) c.read_other-call.ensures (rw c.ways_named.ensures at c.read_by-by.ensures))
