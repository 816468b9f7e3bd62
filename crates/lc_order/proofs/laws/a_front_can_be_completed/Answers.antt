use Rattle.lc_order.proofs.Fronts.{front_completes}
use Rattle.lc_order.proofs.laws.a_front_can_be_completed.Goals as goal

pub returns : goal.returns
returns g c object history m n s rest done = front_completes (g.S.SeqObject.step object) history m rest n s done
