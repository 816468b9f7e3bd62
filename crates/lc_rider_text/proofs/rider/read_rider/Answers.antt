use Rattle.std.proofs.Common.{sym, ◌∙◌, refl}
use Rattle.lc_sexp.specs.Shown.{rest_of, number_of, owner_of}
use Rattle.lc_reading.proofs.Combined.{headed_at}
use Rattle.lc_reading.specs.Readings.{mapped}
use Rattle.lc_rider.specs.RiderView.{rider_of}
use Rattle.lc_rider_text.specs.Heads.{head_of}
use Rattle.lc_rider_text.specs.KnownView.{known_view, ways_there}
use Rattle.lc_rider_text.specs.Riders.{deed_with, when_reading, always, where_holds, rider_reading}
use Rattle.lc_rider_text.proofs.rider.read_rider.Goals as goal

pub returns-then-eq : goal.returns-then-eq
returns-then-eq g c =
    let known = known_view c.args.known in
    let names = g.S.Scope.names c.args.scope.now in
    let own = ways_there c.args.own in
    let l = c.in_ok-word.parts in
    let met = sym c.eq.ensures ∙ c.if-eq.true in
    headed_at rider_of (rider_reading known names own) (λ n m ts. mapped where_holds (when_reading known names own n m ts)) _ _ c.in-List.list l c.in_ok-word.word.now _
    c.in-List.ensures.tree c.in-List.ensures.number c.in-List.ensures.placed c.in_ok-word.ensures (λ n ts. rw met refl)
    (c.made_when.ensures (when_reading known names own (owner_of l) (number_of l) (rest_of l)) c.read_when.ensures)

pub returns : goal.returns
returns g c =
    let known = known_view c.args.known in
    let names = g.S.Scope.names c.args.scope.now in
    let own = ways_there c.args.own in
    let l = c.in_ok-word.parts in
    let w = c.in_ok-word.word.now in
    let other = sym c.eq.ensures ∙ c.if-eq.false in
    headed_at rider_of (rider_reading known names own) (λ n m ts. mapped always (deed_with known names own n m ts (head_of w))) _ _ c.in-List.list l w _
    c.in-List.ensures.tree c.in-List.ensures.number c.in-List.ensures.placed c.in_ok-word.ensures (λ n ts. rw other refl)
    (c.made_rider.ensures (deed_with known names own (owner_of l) (number_of l) (rest_of l) (head_of w)) (rw c.head_of.ensures at c.read_deed_with.ensures))
