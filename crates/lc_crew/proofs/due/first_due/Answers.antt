use Rattle.std.specs.Vec.Iter.{into_iter_items}
use Rattle.lc_crew.proofs.Turns.{first-taken}
use Rattle.lc_crew.proofs.due.first_due.Goals as goal

pub returns : goal.returns
returns c =
    let rest = c.args.rest.now in
    first-taken c.next.result (into_iter_items rest) (into_iter_items c.next.new.self) rest.rest.len rest.rest.ok.0 c.next.ensures.variant c.next.ensures.items
