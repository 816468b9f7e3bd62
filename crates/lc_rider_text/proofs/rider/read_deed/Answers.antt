use Rattle.std.proofs.Common.{refl}
use Rattle.lc_reading.proofs.Combined.{headed_at}
use Rattle.lc_rider_text.specs.Heads.{head_of}
use Rattle.lc_rider_text.specs.KnownView.{known_view, ways_there}
use Rattle.lc_rider_text.specs.Riders.{deed_with, deed_reading}
use Rattle.lc_rider_text.specs.Seen.{deed_of}
use Rattle.lc_rider_text.proofs.rider.read_deed.Goals as goal

pub returns : goal.returns
returns g c =
    let known = known_view c.args.known in
    let names = g.S.Scope.names c.args.scope.now in
    let own = ways_there c.args.own in
    let w = c.in_ok-word.word.now in
    headed_at deed_of (deed_reading known names own) (λ n m ts. deed_with known names own n m ts (head_of w)) _ _ c.in-List.list c.in_ok-word.parts w _
    c.in-List.ensures.tree c.in-List.ensures.number c.in-List.ensures.placed c.in_ok-word.ensures (λ n ts. refl) (rw c.head_of.ensures at c.read_deed_with.ensures)
