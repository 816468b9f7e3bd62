use Rattle.std.proofs.Common.{◌≡◌, sym, subst, ◌∙◌}
use Rattle.lc_ride.specs.Drafts.{written_in_draft}
use Rattle.lc_machine.specs.View.{client_of}
use Rattle.lc_ride.specs.RideView.{marks_of}
use Rattle.lc_sound.specs.Instrumented.{Instrumented}
use Rattle.lc_outline.specs.DevelopmentView.{development_view}
use Rattle.lc_steps.specs.StepView.{what_of, world_in, MayBegin}
use Rattle.lc_steps.specs.Stepping.{world_with}
use Rattle.lc_run.proofs.Growing.{fault_of_begun}
use Rattle.lc_run.proofs.lawful.begun_step.Goals as goal

pub returns-in-Ok-clause-step : goal.returns-in-Ok-clause-step
returns-in-Ok-clause-step c =
    let w = world_in c.args.draft.now c.args.clients.now in
    let t = c.in-Ok.step in
    subst (λ D. Instrumented D w c.args.client (what_of t.what) (marks_of t.marks.items) (world_with w (written_in_draft c.begin.new.draft) c.args.client (client_of t.client))) c.development.ensures.shown c.in-Ok.ensures.begun.0

pub returns-in-Ok-clause-kind : goal.returns-in-Ok-clause-kind
returns-in-Ok-clause-kind c = c.in-Ok.ensures.begun.1

pub returns-in-Err-clause-fault : goal.returns-in-Err-clause-fault
returns-in-Err-clause-fault c =
    let w = world_in c.args.draft.now c.args.clients.now in
    c.run_fault.ensures
    ∙ fault_of_begun (development_view c.development.result.now) w c.args.client c.args.operation.0 c.args.numbers.now (written_in_draft c.begin.new.draft) c.in-Err.fault
    (subst (λ D. MayBegin D w c.args.client c.args.operation.0 c.args.numbers.now) (sym c.development.ensures.shown) c.requires.may) c.in-Err.ensures.begun
