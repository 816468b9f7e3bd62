use Rattle.lincheck.proofs.Verdicts.{text_not_read}
use Rattle.lincheck.proofs.formula.check_fed.Goals as goal

pub returns-in_err-forms : goal.returns-in_err-forms
returns-in_err-forms c = λ bytes fed. text_not_read bytes _ c.from_residual.result (c.in_err-forms.ensures.answer bytes fed) c.from_residual.ensures.1
