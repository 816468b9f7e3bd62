use Rattle.lc_short.proofs.Shortened.{text_answer}
use Rattle.lc_short.proofs.reading.short_of.Goals as goal

pub returns-in_err-forms : goal.returns-in_err-forms
returns-in_err-forms c = text_answer c.args.bytes.now _ c.from_residual.result c.in_err-forms.ensures.answer c.from_residual.ensures.1

pub returns : goal.returns
returns c = c.short_in.ensures c.args.bytes.now c.in_ok-forms.ensures.answer
