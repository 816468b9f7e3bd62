use Rattle.lc_reading.proofs.Files.{text_fault}
use Rattle.lc_seq.specs.TextView.{specification_of}
use Rattle.lc_spec_text.specs.Specifications.{first_reading}
use Rattle.lc_spec_text.proofs.file.spec_of.Goals as goal

pub returns-in_err-forms : goal.returns-in_err-forms
returns-in_err-forms c = text_fault specification_of first_reading c.args.bytes.now _ c.from_residual.result c.in_err-forms.ensures.answer c.from_residual.ensures.1

pub returns : goal.returns
returns c = c.spec_in.ensures c.args.bytes.now c.in_ok-forms.ensures.answer
