use Rattle.lc_plan.specs.View.{calls_of}
use Rattle.std.proofs.Common.{◌++◌, map}
use Rattle.lc_crew.specs.Turns.{dues_of, made_ever}
use Rattle.lc_crew.proofs.Turns.{dues-more}
use Rattle.lc_crew.proofs.due.push_dues.Goals as goal

pub loop-calls-preserved : goal.loop-calls-preserved
loop-calls-preserved c =
    let items = c.args.script.now.calls.items in
    dues-more c.deref-calls-items.result.now items c.loop-calls.calls-index c.calls-item.result (dues_of c.loop-calls.dues.items) (dues_of c.push_due.new.dues.items)
    (dues_of c.args.dues.now.items ++ made_ever (map calls_of items)) c.deref-calls-items.ensures.value c.loop-calls-test.true c.calls-item.is c.in_ok-push_due.ensures c.loop-calls.invariant
