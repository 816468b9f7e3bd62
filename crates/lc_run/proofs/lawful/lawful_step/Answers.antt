use Rattle.std.proofs.Common.{Ok, Err, sym, subst, ◌∙◌}
use Rattle.lc_ride.specs.Drafts.{written_in_draft}
use Rattle.lc_check.specs.VerdictView.{development_in}
use Rattle.lc_outline.specs.DevelopmentView.{development_view}
use Rattle.lc_sound.specs.Derived.{AreDerived}
use Rattle.lc_sound.specs.Instrumented.{IsRun}
use Rattle.lc_steps.specs.StepView.{world_in, IsAdvanced}
use Rattle.lc_run.specs.LabelView.{labels_of}
use Rattle.lc_run.specs.Taken.{IsUntold}
use Rattle.lc_run.proofs.Growing.{fault_is_untold}
use Rattle.lc_run.proofs.Lawfully.{never-unlawful}
use Rattle.lc_run.proofs.lawful.lawful_step.Goals as goal

pub unreachable-requires : goal.unreachable-requires
unreachable-requires c =
    let d = c.development.result.now in
    let w = world_in c.args.draft.now c.args.clients.now in
    let shown = sym c.development.ensures.shown in
    let columns = written_in_draft c.advance.new.draft in
    let told = subst (λ r. IsAdvanced (development_view d) w c.args.client columns r) c.in-Ok-None.is c.advance.ensures.advanced in
    never-unlawful d c.args.count (labels_of c.args._labels.now) w c.args.client
    (subst (λ D. ∥ AreDerived D ∥₁) shown c.development.ensures.derived)
    (subst (λ D. ∥ IsRun D c.args.count (labels_of c.args._labels.now) w ∥₁) shown c.requires.held)
    (subst (λ o. IsAdvanced (development_view d) w c.args.client columns (Ok o)) c.in-Ok-None.field-0-is told).1

pub returns-in-Err-clause-fault : goal.returns-in-Err-clause-fault
returns-in-Err-clause-fault c =
    let D = development_in c.args.accepted.now in
    let w = world_in c.args.draft.now c.args.clients.now in
    let columns = written_in_draft c.advance.new.draft in
    let told = subst (λ d. IsAdvanced d w c.args.client columns (Err c.in-Err.fault)) c.development.ensures.shown c.in-Err.ensures.advanced in
    subst (λ f. IsUntold D w c.args.client f) (sym c.run_fault.ensures) (fault_is_untold D w c.args.client columns c.in-Err.fault c.requires.call told)
