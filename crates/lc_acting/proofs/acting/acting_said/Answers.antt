use Rattle.std.proofs.Common.{List, sym, subst}
use Rattle.lc_object.specs.View.{terms_of}
use Rattle.lc_term.specs.State.{state_of, column_count}
use Rattle.lc_term.specs.declared.term.Term.{Term}
use Rattle.lc_acting.specs.Acting.{AreNumbers}
use Rattle.lc_acting.proofs.Only.{match_none}
use Rattle.lc_acting.proofs.acting.acting_said.Goals as goal

pub returns-in-None : goal.returns-in-None
returns-in-None c = λ i args h.
    match_none _ _ _ c.in-None.is c.in_ok-numbers_of.ensures args
    (subst (λ (ts : List Term). AreNumbers (column_count c.args.state.now) (state_of c.args.state.now) c.args.env.now.values.items (terms_of ts) args) (sym c.deref.ensures.value) (h.1))
