use Rattle.lc_hints.proofs.Answered.{text_passed}
use Rattle.lc_outline.specs.DevelopmentView.{development_view}
use Rattle.lincheck.proofs.prove.hints_fed.Goals as goal

pub returns-in_err-forms-clause-answer : goal.returns-in_err-forms-clause-answer
returns-in_err-forms-clause-answer c = λ bytes fed.
    text_passed (development_view c.args.development.now) bytes _ c.from_residual.result (c.in_err-forms.ensures.answer bytes fed) c.from_residual.ensures.1
