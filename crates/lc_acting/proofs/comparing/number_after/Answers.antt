use Rattle.std.proofs.Common.{◌≡◌, Option, ℤ, option_map, sym, subst}
use Rattle.std.specs.Int.{w64}
use Rattle.std.specs.Prelude.{FitsSigned, MatchOption}
use Rattle.lc_term.specs.State.{state_of}
use Rattle.lc_term.specs.UpdateView.{write_view, writes_view}
use Rattle.lc_term.specs.declared.update.Write.{Write}
use Rattle.lc_acting.specs.Left.{IsLeft}
use Rattle.lc_acting.proofs.LeftIn.{left_cell}
use Rattle.lc_acting.proofs.comparing.number_after.Goals as goal

pub returns-in-None : goal.returns-in-None
returns-in-None c =
    let a = c.args.at in
    let away = subst (λ (o : Option Write). IsLeft (writes_view c.args.writes.now) a.column.0 a.index (option_map write_view o)) c.in-None.is c.last_in.ensures in
    subst (λ (x : ℤ). MatchOption c.number_before.result (FitsSigned w64 x → ⊥) (λ n. x ≡ n)) (sym (left_cell (state_of c.args.state.now) (writes_view c.args.writes.now) a.column.0 a.index away)) c.number_before.ensures
