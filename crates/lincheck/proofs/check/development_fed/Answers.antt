use Rattle.lc_outline.specs.DevelopmentView.{development_view}
use Rattle.lc_outline_text.specs.Developments.{file_reading}
use Rattle.lc_reading.proofs.Files.{text_fault}
use Rattle.lincheck.proofs.check.development_fed.Goals as goal

pub returns-in_err-forms : goal.returns-in_err-forms
returns-in_err-forms c = λ bytes fed.
    text_fault development_view file_reading bytes _ c.from_residual.result (c.in_err-forms.ensures.answer bytes fed) c.from_residual.ensures.1
