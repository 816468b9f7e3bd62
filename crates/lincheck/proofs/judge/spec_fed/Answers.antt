use Rattle.lc_reading.proofs.Files.{text_fault}
use Rattle.lc_seq.specs.TextView.{specification_of}
use Rattle.lc_spec_text.specs.Specifications.{first_reading}
use Rattle.lincheck.proofs.judge.spec_fed.Goals as goal

pub returns-in_err-forms : goal.returns-in_err-forms
returns-in_err-forms c = λ bytes fed.
    text_fault specification_of first_reading bytes _ c.from_residual.result (c.in_err-forms.ensures.answer bytes fed) c.from_residual.ensures.1
