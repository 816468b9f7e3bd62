use Rattle.std.proofs.Common.{ℕ, Bor, sym, subst}
use Rattle.std.specs.Prelude.{Option, Some, IfOk, option_map}
use Rattle.lc_outline.specs.DevelopmentView.{on_of}
use Rattle.lc_outline.specs.declared.parts.On.{On}
use Rattle.lc_term.specs.State.{state_of}
use Rattle.lc_acting.specs.Attempts.{IsOnly, development_of, world_of, event_of}
use Rattle.lc_acting.specs.Acting.{IsActionOn, IsAtReturn}
use Rattle.lc_acting.proofs.Only.{said_at_return}
use Rattle.lc_acting.proofs.acting.acting_at_return.Goals as goal

pub returns-in-Some : goal.returns-in-Some
returns-in-Some c =
    let a = c.args.attempt.now in
    let vs = c.args.env.now.values.items in
    let x = on_of c.in-Some.on.now in
    let r = c.acting_said.result in
    subst (λ (o : Option (Bor On)). IfOk r (IsOnly (IsAtReturn (development_of a) (world_of a) a.client (event_of a) vs (option_map (λ (y : Bor On). on_of y.now) o)))) (sym c.in-Some.is)
    (said_at_return (development_of a) (world_of a) a.client (event_of a) r vs x
    (subst (λ (n : ℕ). IfOk r (IsOnly (IsActionOn n (state_of a.state.now) vs (Some x)))) c.requires.columns_are c.acting_said.ensures))
