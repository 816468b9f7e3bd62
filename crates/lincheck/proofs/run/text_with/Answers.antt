use Rattle.std.proofs.Common.{◌≡◌, ap, ◌∙◌}
use Rattle.std.specs.Arc.{arc_value}
use Rattle.lc_check.specs.VerdictView.{development_in}
use Rattle.lc_outline.specs.Development as S
use Rattle.lc_outline.specs.DevelopmentView.{development_view}
use Rattle.lc_plan.specs.View.{plan_of}
use Rattle.lincheck.specs.Run.{ran_text}
use Rattle.lincheck.proofs.Running.{ran_told}
use Rattle.lincheck.proofs.run.text_with.Goals as goal

pub returns : goal.returns
returns g c =
    let D = development_in (arc_value c.args.accepted) in
    let same : development_view c.development.result.now ≡ D = c.development.ensures.shown ∙ ap development_in (c.deref.ensures ∙ c.in_ok-ours.ensures) in
    ran_told D (plan_of c.args.plan.now) c.in_ok-ran.ran c.in_ok-ran_text.field-0.items c.in_ok-ran.ensures (c.in_ok-ran_text.ensures ∙ ap (λ (E : S.Development). ran_text E c.in_ok-ran.ran) same)
