use Rattle.std.specs.Vec.Iter.{into_iter_items}
use Rattle.lc_run.specs.Locked.{client_in, labels_made}
use Rattle.lc_crew.proofs.Turns.{begun-turn, stepped-turn}
use Rattle.lc_crew.proofs.player.Player.turn_of.Goals as goal

pub returns-in_ok-begin-in-Between : goal.returns-in_ok-begin-in-Between
returns-in_ok-begin-in-Between g c = λ phases way.
    let p = c.args.self.now in
    let seat = c.begin.new.seat in
    let told = c.in_ok-begin-in-Between.ensures in
    begun-turn phases (client_in p.seat) (client_in seat) p.stand c.in_ok-begin-in-Between.field-0 p.due c.in-Some.due (into_iter_items p.rest) (labels_made p.seat) (labels_made seat) c.in-Some.is c.in-Between.is told.same
    way told.stands

pub returns-in_ok-step-in-Within : goal.returns-in_ok-step-in-Within
returns-in_ok-step-in-Within g c = λ phases way.
    let p = c.args.self.now in
    let seat = c.step.new.seat in
    let told = c.in_ok-step-in-Within.ensures in
    stepped-turn phases (client_in p.seat) (client_in seat) c.in-Within.left p.stand c.in_ok-step-in-Within.field-0 p.due c.in-Some.due (into_iter_items p.rest) (labels_made p.seat) (labels_made seat) c.in-Some.is c.in-Within.is told.same
    way told.stands
