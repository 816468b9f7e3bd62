use Rattle.lc_outline.specs.DevelopmentView.{development_view}
use Rattle.lc_reading.proofs.Files.{text_fault}
use Rattle.lc_plan.specs.Readings.{plan_reading}
use Rattle.lc_plan.specs.View.{plan_of}
use Rattle.lc_plan.proofs.reading.plan_of.Goals as goal

pub plan_in-requires : goal.plan_in-requires
plan_in-requires c = (c.args.bytes.now, c.in_ok-forms.ensures.answer)

pub returns-in_err-forms : goal.returns-in_err-forms
returns-in_err-forms c =
    text_fault plan_of (plan_reading (development_view c.args.development.now)) c.args.bytes.now _ c.from_residual.result c.in_err-forms.ensures.answer c.from_residual.ensures.1

pub returns : goal.returns
returns c = c.plan_in.ensures c.args.bytes.now c.in_ok-forms.ensures.answer
