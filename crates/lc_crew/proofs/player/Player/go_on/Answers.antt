use Rattle.std.proofs.Common.{Some, subst}
use Rattle.std.specs.Vec.Iter.{into_iter_items}
use Rattle.lc_run.specs.Locked.{client_in, labels_made}
use Rattle.lc_crew.specs.Turns.{HasTurnedAt}
use Rattle.lc_crew.specs.declared.stand.Stand.TheVariants.{Between}
use Rattle.lc_crew.proofs.Turns.{between-on-way}
use Rattle.lc_crew.proofs.player.Player.go_on.Goals as goal

pub returns : goal.returns
returns g c = λ phases turned.
    let p = c.args.self.now in
    let client = client_in p.seat in
    let now = labels_made p.seat in
    let rest = into_iter_items p.rest in
    let d = c.in-Some.due in
    let at : HasTurnedAt phases client (Some Between) p.stand (Some d) rest now = subst (λ o. HasTurnedAt phases client (Some Between) p.stand o rest now) c.in-Some.is turned in
    between-on-way phases client d rest at.0 now c.next_due-self.result (into_iter_items c.next_due-self.new.rest) at.1 at.2 c.next_due-self.ensures
