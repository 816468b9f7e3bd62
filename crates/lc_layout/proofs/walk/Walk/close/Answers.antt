use Rattle.lc_layout.proofs.Rows.{told_close, steps_close}
use Rattle.lc_layout.proofs.walk.Walk.close.Goals as goal

pub returns-clause-told : goal.returns-clause-told
returns-clause-told c =
    let w = c.args.self.now in
    told_close c.args.text.now.items c.push_gap.new.text.items c.push.new.self.items w.row c.in-Some.row c.closing_gap.result w.around.items c.pop.new.self.items c.pop.result
    c.in_ok-push_gap.ensures c.in_ok-push.ensures.items c.closing_gap.ensures c.requires c.pop.ensures.items c.in-Some.is

pub returns-clause-fewer : goal.returns-clause-fewer
returns-clause-fewer c = λ e.
    let w = c.args.self.now in
    steps_close w.row c.in-Some.row w.around.items c.pop.new.self.items c.pop.result c.pop.ensures.items c.in-Some.is
