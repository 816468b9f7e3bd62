use Rattle.std.proofs.Common.{Bor, sym, subst}
use Rattle.std.specs.Prelude.{Option, IfOk, option_map}
use Rattle.lc_outline.specs.DevelopmentView.{on_of}
use Rattle.lc_outline.specs.declared.parts.On.{On}
use Rattle.lc_term.specs.State.{state_of, column_count}
use Rattle.lc_acting.specs.Attempts.{IsOnly}
use Rattle.lc_acting.specs.Acting.{IsActionOn}
use Rattle.lc_acting.proofs.acting.acting_on.Goals as goal

pub returns-in-Some : goal.returns-in-Some
returns-in-Some c =
    subst (λ (o : Option (Bor On)). IfOk c.acting_said.result (IsOnly (IsActionOn (column_count c.args.state.now) (state_of c.args.state.now) c.args.env.now.values.items (option_map (λ (x : Bor On). on_of x.now) o))))
    (sym c.in-Some.is) c.acting_said.ensures
