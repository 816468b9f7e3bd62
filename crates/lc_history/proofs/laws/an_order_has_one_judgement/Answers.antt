use Rattle.lc_history.proofs.OneJudgement.{one_judgement}
use Rattle.lc_history.proofs.laws.an_order_has_one_judgement.Goals as goal

pub returns : goal.returns
returns g c = λ object history order answer other a told b also. let o = g.S.SeqObject in
    one_judgement (o.step object) (o.Fits object) (o.start object) history order answer other a told b also
