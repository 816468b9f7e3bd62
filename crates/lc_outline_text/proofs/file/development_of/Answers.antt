use Rattle.lc_outline.specs.DevelopmentView.{development_view}
use Rattle.lc_reading.proofs.Files.{text_fault}
use Rattle.lc_outline_text.specs.Developments.{file_reading}
use Rattle.lc_outline_text.proofs.file.development_of.Goals as goal

pub returns-in_err-forms : goal.returns-in_err-forms
returns-in_err-forms c =
    text_fault development_view file_reading c.args.bytes.now _ c.from_residual.result c.in_err-forms.ensures.answer c.from_residual.ensures.1

pub returns : goal.returns
returns c = c.development_in.ensures c.args.bytes.now c.in_ok-forms.ensures.answer
