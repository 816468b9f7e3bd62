use Rattle.std.proofs.Common.{◌≡◌, List, ℤ, sym, subst}
use Rattle.lc_machine.specs.Step.{Invoked}
use Rattle.lc_plan.specs.View.{calls_of}
use Rattle.lc_run.specs.Labels.{HasMade}
use Rattle.lc_run.specs.Locked.{client_in, labels_made}
use Rattle.lc_crew.specs.Playing.{event_of}
use Rattle.lc_crew.specs.Turns.{StandsSo}
use Rattle.lc_crew.proofs.Turns.{begun-stands}
use Rattle.lc_crew.proofs.stand.begin.Goals as goal

pub returns-in-Ok-clause-stands : goal.returns-in-Ok-clause-stands
returns-in-Ok-clause-stands g c =
    let calls = c.args.calls.now in
    let client = client_in c.args.seat.now in
    let before = labels_made c.args.seat.now in
    let now = labels_made c.begin.new.seat in
    let made = subst (λ (l : List ℤ). HasMade (λ what. what ≡ Invoked calls.call.op.0 l) client before now) c.deref.ensures.value c.in-Ok.ensures.ok in
    subst (λ s. StandsSo s calls.turns (event_of (calls_of calls)) client before now) (sym c.going_on.ensures) (begun-stands calls.turns (event_of (calls_of calls)) client before now made)
