use Rattle.lc_order.proofs.Crux.{completes_where_passed}
use Rattle.lc_order.proofs.laws.what_linearizes_completes.Goals as goal

pub returns : goal.returns
returns g c object history order w l =
    let o = g.S.SeqObject in
    completes_where_passed (o.step object) (o.start object) history order w ((c.tests_are_exact.ensures object history order w).0 l) l.legal
