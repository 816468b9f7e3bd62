use Rattle.std.proofs.Common.{Bool, subst}
use Rattle.lc_term.specs.State.{state_of}
use Rattle.lc_term.specs.UpdateView.{writes_view}
use Rattle.lc_acting.specs.Left.{SaysApart}
use Rattle.lc_acting.proofs.LeftIn.{apart_back}
use Rattle.lc_acting.proofs.comparing.are_apart.Goals as goal

pub returns : goal.returns
returns c =
    apart_back c.differ_in-2.result (state_of c.args.state.now) (writes_view c.args.first.now) (writes_view c.args.second.now)
    (subst (λ (b : Bool). SaysApart b (state_of c.args.state.now) (writes_view c.args.first.now) (writes_view c.args.second.now)) c.if-differ_in.false c.differ_in.ensures) c.differ_in-2.ensures
