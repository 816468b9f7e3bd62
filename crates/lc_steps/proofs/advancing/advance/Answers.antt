use Rattle.std.proofs.Common.{ap, sym, ◌∙◌, Some}
use Rattle.lc_lemmas.proofs.Lists.{at_all}
use Rattle.lc_machine.specs.Placed.{is_placed}
use Rattle.lc_machine.specs.View.{client_of, clients_of, variables_of}
use Rattle.lc_machine.specs.World.{In}
use Rattle.lc_outline.specs.DevelopmentView.{development_view}
use Rattle.lc_steps.specs.StepView.{world_in}
use Rattle.lc_steps.proofs.advancing.advance.Goals as goal

pub returns-in-Some-Idle-clause-advanced : goal.returns-in-Some-Idle-clause-advanced
returns-in-Some-Idle-clause-advanced c = c.in-Some-Idle.ensures ∙ ap (λ k. Some (client_of k)) c.in-Some-Idle.field-0-is

pub step_from-requires-clause-placed : goal.step_from-requires-clause-placed
step_from-requires-clause-placed c =
    let object = (development_view c.args.development.now).object in
    let place = c.in-Some-In.place in
    at_all (is_placed object) (clients_of c.args.clients.now) c.args.client (In place.point.0 (variables_of place)) c.requires.placed
    (c.in-Some-In.ensures ∙ ap (λ k. Some (client_of k)) c.in-Some-In.field-0-is)

pub returns-in-Some-In-clause-advanced : goal.returns-in-Some-In-clause-advanced
returns-in-Some-In-clause-advanced c =
    c.step_from.ensures.stepped (world_in c.args.draft.now c.args.clients.now) (sym c.roll_back.ensures.written)
    (c.in-Some-In.ensures ∙ ap (λ k. Some (client_of k)) c.in-Some-In.field-0-is)
