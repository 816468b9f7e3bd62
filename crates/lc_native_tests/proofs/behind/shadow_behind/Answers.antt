use Rattle.lc_native_tests.proofs.Answered.{applied_with_reply}
use Rattle.lc_native_tests.proofs.behind.shadow_behind.Goals as goal

pub loop-made-preserved : goal.loop-made-preserved
loop-made-preserved g c =
    let a = g.A.SeqObject in
    let laws = g.met.B.Shadows in
    let made = c.made-item.result in
    let old = a.meaning c.loop-made.state in
    let new = a.meaning c.apply.new.state in
    let call = a.call_meant made.call in
    let choice = a.choice_meant made.choice in
    let taken = applied_with_reply a.numbers (a.step c.args.object.now old made.client call choice) (a.Fits c.args.object.now old made.client call choice) old new c.in_ok-reply.reply c.is_none.result
    c.is_none.ensures c.if-is_none.false c.in_ok-reply.ensures.applied in
    let followed = (laws.has_shadow c.loop-made.state).0 c.loop-made.invariant.shadow in
    let next = laws.follows c.args.shadow.now c.args.object.now c.requires old made.client call choice new (a.numbers taken.0) followed taken.1 in
    record { state = c.in_ok-reply.ensures.state; shadow = (laws.has_shadow c.apply.new.state).1 next.0 }
