use Rattle.std.proofs.Common.{◌∙◌}
use Rattle.std.specs.Vec.Iter.{into_iter_items}
use Rattle.lc_crew.proofs.Turns.{starts-on-way}
use Rattle.lc_crew.proofs.player.Player.new.Goals as goal

pub returns : goal.returns
returns g c =
    let parts = c.into_parts-seat.result in
    let told = c.into_parts-seat.ensures in
    starts-on-way c.args.plan.now c.args.number c.index.result.now c.deref.result.now c.args.member parts.0 parts.1 c.stand_before.result c.in_ok-dues_in.field-0.items (into_iter_items c.first_due-due.new.rest)
    c.first_due-due.result c.requires.below c.index.ensures c.deref.ensures.value c.requires.made told.seat told.labels told.client told.halt c.stand_before.ensures c.in_ok-dues_in.ensures
    (c.first_due-due.ensures ∙ c.into_iter-rest.ensures.rest)
