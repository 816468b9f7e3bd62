use Rattle.lc_complete.proofs.Answering.{text_answers}
use Rattle.lincheck.proofs.complete.made_fed.Goals as goal

pub returns-in_err-forms : goal.returns-in_err-forms
returns-in_err-forms g c = λ bytes fed.
    text_answers bytes _ c.from_residual.result (c.in_err-forms.ensures.answer bytes fed) c.from_residual.ensures.1

pub returns : goal.returns
returns g c = λ bytes fed. c.complete.ensures bytes (c.in_ok-forms.ensures.answer bytes fed)
