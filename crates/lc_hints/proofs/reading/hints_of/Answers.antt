use Rattle.lc_outline.specs.DevelopmentView.{development_view}
use Rattle.lc_hints.proofs.Answered.{text_passed}
use Rattle.lc_hints.proofs.reading.hints_of.Goals as goal

pub hints_in-requires : goal.hints_in-requires
hints_in-requires c = (c.args.bytes.now, c.in_ok-forms.ensures.answer)

pub returns-in_err-forms-clause-answer : goal.returns-in_err-forms-clause-answer
returns-in_err-forms-clause-answer c =
    text_passed (development_view c.args.development.now) c.args.bytes.now _ c.from_residual.result c.in_err-forms.ensures.answer c.from_residual.ensures.1

pub returns-clause-answer : goal.returns-clause-answer
returns-clause-answer c = c.hints_in.ensures.answer c.args.bytes.now c.in_ok-forms.ensures.answer
