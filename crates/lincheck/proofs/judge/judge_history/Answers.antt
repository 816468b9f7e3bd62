use Rattle.lc_history.specs.Histories.{events_in}
use Rattle.lc_seq.specs.TextView.{specification_of}
use Rattle.lincheck.proofs.Judgements.{order_judged}
use Rattle.lincheck.proofs.judge.judge_history.Goals as goal

pub returns : goal.returns
returns c =
    rw c.judgement_of.ensures
    (order_judged (specification_of c.args.spec.now) c.args.bytes.now (events_in c.in_ok-history.history) c.in_ok-history.order.items c.deref.result.now c.judge.result
    c.in_ok-history.ensures c.deref.ensures.value c.judge.ensures)
