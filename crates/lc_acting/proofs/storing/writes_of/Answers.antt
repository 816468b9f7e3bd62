use Rattle.std.proofs.Common.{◌≡◌, [], ◌∷◌, ◌++◌, rules}
use Rattle.lc_term.specs.State.{state_of, column_count}
use Rattle.lc_acting.proofs.Stored.{stored_more, stored_none}
use Rattle.lc_acting.proofs.storing.writes_of.Goals as goal

pub returns-in-None : goal.returns-in-None
returns-in-None c =
    stored_none (column_count c.args.state.now) (state_of c.args.state.now) c.args.env.now.values.items c.args.updates.now c.loop-update.update-index c.update-item.result c.loop-update-test.true c.update-item.is c.in-None.ensures

pub loop-update-preserved : goal.loop-update-preserved
loop-update-preserved c =
    let items : c.push.new.self.items ≡ c.loop-update.writes.items ++ c.in-Some.write ∷ [] = search rules in
    stored_more (column_count c.args.state.now) (state_of c.args.state.now) c.args.env.now.values.items c.args.updates.now c.loop-update.update-index c.update-item.result c.in-Some.write c.loop-update.writes.items
    c.push.new.self.items c.loop-update-test.true c.update-item.is (c.in-Some.ensures.0) (c.in-Some.ensures.1) items c.loop-update.invariant
