use Rattle.lc_history.proofs.Order.{linearizes_where_passed, passed_where_linearizes}
use Rattle.lc_history.proofs.laws.tests_are_exact.Goals as goal

pub returns : goal.returns
returns g c = λ object history order w. let o = g.S.SeqObject in (
  passed_where_linearizes (o.step object) (o.start object) history order w,
  linearizes_where_passed (o.step object) (o.start object) history order w,
)
