use Rattle.std.proofs.Common.{◌≡◌, sym, subst, rules}
use Rattle.std.specs.Prelude.{Option, Some, IfOk}
use Rattle.lc_machine.specs.Step.{Event, Moved, Returned}
use Rattle.lc_machine.specs.View.{variables_of}
use Rattle.lc_acting.specs.Attempts.{IsOnly, development_of, world_of, event_of}
use Rattle.lc_acting.specs.Acting.{IsActing}
use Rattle.lc_acting.proofs.Only.{at_return}
use Rattle.lc_acting.proofs.acting.action_of.Goals as goal

pub returns-in-Some-Moved : goal.returns-in-Some-Moved
returns-in-Some-Moved c =
    let a = c.args.attempt.now in
    let e : event_of a ≡ Some (Moved c.in-Some-Moved.point.0 c.in-Some-Moved.edge) = search rules in
    subst (λ (o : Option Event). IfOk c.passing.result (IsOnly (IsActing (development_of a) (world_of a) a.client (event_of a) o))) (sym e) c.passing.ensures

pub returns-in-Some : goal.returns-in-Some
returns-in-Some c =
    let a = c.args.attempt.now in
    let place = c.in-Some.place.now in
    let ns = c.in-Some-Returned.field-0-0.items in
    let e : event_of a ≡ Some (Returned ns) = search rules in
    subst (λ (o : Option Event). IfOk c.leaving.result (IsOnly (IsActing (development_of a) (world_of a) a.client (event_of a) o))) (sym e)
    (at_return (development_of a) (world_of a) a.client (event_of a) c.leaving.result place.point.0 (variables_of place) ns c.in-Some.ensures c.leaving.ensures)
