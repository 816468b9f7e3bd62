use Rattle.lc_outline.specs.DevelopmentView.{development_view}
use Rattle.lc_plan.specs.Readings.{plan_reading}
use Rattle.lc_plan.specs.View.{plan_of}
use Rattle.lc_reading.proofs.Files.{text_fault}
use Rattle.lincheck.proofs.run.plan_fed.Goals as goal

pub returns-in_err-forms : goal.returns-in_err-forms
returns-in_err-forms c = λ bytes fed.
    text_fault plan_of (plan_reading (development_view c.args.development.now)) bytes _ c.from_residual.result (c.in_err-forms.ensures.answer bytes fed) c.from_residual.ensures.1
