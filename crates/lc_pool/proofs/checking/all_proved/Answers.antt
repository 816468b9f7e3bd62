use denote.Param.Send.{param_send, arg_send}
use Rattle.std.proofs.Common.{subst}
use Rattle.std.proofs.lemmas.Result.{IfOk-weaker}
use Rattle.lc_pool.proofs.Crossing.{Desk-send}
use Rattle.lc_pool.specs.Desks.{development_in}
use Rattle.lc_pool.specs.Marks.{AllHold}
use Rattle.lc_pool.proofs.checking.all_proved.Goals as goal

pub pooled-requires-send-C : goal.pooled-requires-send-C
pooled-requires-send-C g c κs within = search (Desk-send, param_send, arg_send)

pub returns : goal.returns
returns g c =
    let all = c.count.ensures (development_in c.args.files) c.requires.numbering in
    IfOk-weaker c.pooled.result _ _ (λ every held. λ yes'. subst (AllHold g.W.Work.holds) all (held yes')) c.pooled.ensures
