use Rattle.std.proofs.Common.{[], refl}
use Rattle.lc_sexp.specs.Shown.{owner_of}
use Rattle.lc_reading.proofs.Combined.{two_parts}
use Rattle.lc_rider.specs.RiderView.{formula_in}
use Rattle.lc_text.specs.Formulas.{formula_reading}
use Rattle.lc_text.specs.Terms.{pair}
use Rattle.lc_rider_text.specs.KnownView.{known_view, ways_there}
use Rattle.lc_rider_text.specs.Riders.{deed_reading, when_reading}
use Rattle.lc_rider_text.specs.Scopes.{quiet}
use Rattle.lc_rider_text.specs.Seen.{deed_of}
use Rattle.lc_rider_text.proofs.rider.read_when.Goals as goal

pub returns : goal.returns
returns g c =
    let known = known_view c.args.known in
    let names = g.S.Scope.names c.args.scope.now in
    let own = ways_there c.args.own in
    two_parts formula_in deed_of pair (formula_reading (quiet names) []) (deed_reading known names own) (when_reading known names own (owner_of c.args.list)) c.args.list
    c.in_ok-first.rest c.in_ok-first.first c.in_ok-first.second _ _ _ _
    c.in_ok-first.ensures c.read_condition-condition.ensures c.read_deed-deed.ensures c.both.ensures c.ended.ensures (λ m ts. refl)
