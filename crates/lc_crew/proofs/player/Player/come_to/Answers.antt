use Rattle.std.proofs.Common.{refl}
use Rattle.std.specs.Vec.Iter.{into_iter_items}
use Rattle.lc_run.specs.Locked.{client_in, labels_made}
use Rattle.lc_crew.proofs.Turns.{turned-on-way}
use Rattle.lc_crew.proofs.player.Player.come_to.Goals as goal

pub returns-in_default : goal.returns-in_default
returns-in_default g c = λ phases turned.
    let p = c.args.self.now in
    let rest = into_iter_items p.rest in
    turned-on-way phases (client_in p.seat) p.stand c.args.stand p.due p.due rest rest (labels_made p.seat) turned (λ e d is. absurd (c.in_default.not-Between e)) (λ never. (refl, refl))
