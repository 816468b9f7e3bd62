use Rattle.std.proofs.Common.{◌≡◌, ap, ◌∙◌}
use Rattle.std.specs.Arc.{arc_value}
use Rattle.lc_check.specs.VerdictView.{development_in}
use Rattle.lc_outline.specs.DevelopmentView.{development_view}
use Rattle.lc_plan.specs.View.{plan_of}
use Rattle.lincheck.proofs.Running.{trace_answered}
use Rattle.lincheck.proofs.run.traced_with.Goals as goal

pub returns : goal.returns
returns g c =
    let D = development_in (arc_value c.args.accepted) in
    let same : development_view c.development.result.now ≡ D = c.development.ensures.shown ∙ ap development_in (c.deref.ensures ∙ c.in_ok-ours.ensures) in
    trace_answered D (development_view c.development.result.now) (plan_of c.args.plan.now) c.in_ok-ran.ran c.trace_text.result same c.in_ok-ran.ensures c.trace_text.ensures
