use Rattle.std.proofs.Common.{◌≡◌, ℕ, Bor, subst, rules}
use Rattle.std.specs.Prelude.{Option, IfOk, option_map}
use Rattle.lc_machine.specs.Step.{IsClient}
use Rattle.lc_machine.specs.View.{variables_of}
use Rattle.lc_machine.specs.World.{In}
use Rattle.lc_outline.specs.Development.{On, first_system}
use Rattle.lc_outline.specs.DevelopmentView.{on_of}
use Rattle.lc_outline.specs.declared.parts.On as code
use Rattle.lc_term.specs.State.{state_of}
use Rattle.lc_term.specs.SystemColumns as S
use Rattle.lc_acting.specs.Attempts.{IsOnly, development_of, world_of, event_of}
use Rattle.lc_acting.specs.Acting.{IsActionOn}
use Rattle.lc_acting.proofs.Only.{on_edge}
use Rattle.lc_acting.proofs.acting.passing.Goals as goal

pub returns-else-place-point : goal.returns-else-place-point
returns-else-place-point c =
    let a = c.args.attempt.now in
    let D = development_of a in
    let w = world_of a in
    let place = c.in-Some.place.now in
    let vs = variables_of place in
    let r = c.acting_on.result in
    let same : place.point.0 ≡ c.args.point.0 = search rules in
    let here : IsClient w a.client (In c.args.point.0 vs) = subst (λ (n : ℕ). IsClient w a.client (In n vs)) same c.in-Some.ensures in
    on_edge D w a.client (event_of a) r c.args.point.0 c.args.edge vs here
    (subst (λ (o : Option On). IfOk r (IsOnly (IsActionOn (S.column_count (first_system D)) (state_of a.state.now) vs o))) c.on_at-on.ensures
    (subst (λ (n : ℕ). IfOk r (IsOnly (IsActionOn n (state_of a.state.now) vs (option_map (λ (x : Bor code.On). on_of x.now) c.on_at-on.result)))) c.requires.columns_are c.acting_on.ensures))
