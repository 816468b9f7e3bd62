use Rattle.std.proofs.Common.{subst}
use Rattle.std.proofs.lemmas.List.{take_all}
use Rattle.lc_cond.proofs.Made.{MadeBelow, made_more, made_all}
use Rattle.lc_cond.proofs.making.push_each.Goals as goal

pub loop-number-preserved : goal.loop-number-preserved
loop-number-preserved c =
    made_more c.args.head c.args.hypotheses.now c.args.goals.now c.loop-number.number (record { 0 = 0 }) c.args.conditions.now.items c.loop-number.conditions.items
    c.push_one.new.conditions.items c.loop-number-test.true c.loop-number.invariant c.in_ok-push_one.ensures

pub returns : goal.returns
returns c =
    made_all c.args.head c.args.hypotheses.now c.args.goals.now c.args.conditions.now.items c.loop-number.conditions.items
    (subst (λ l. MadeBelow c.args.head c.args.hypotheses.now l c.args.conditions.now.items c.loop-number.conditions.items) (take_all c.loop-number.number c.args.goals.now c.loop-number-test.false) c.loop-number.invariant)
