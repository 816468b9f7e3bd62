use Rattle.std.proofs.Common.{Err, sym, ap, ◌∙◌, subst}
use Rattle.lc_reading.specs.Readings.{fine}
use Rattle.lc_outline_text.proofs.FileReads.{file_fault}
use Rattle.lc_outline_text.specs.Developments.{file_reading}
use Rattle.lc_outline_text.specs.Views.{IsFileRead}
use Rattle.lc_outline_text.proofs.file.development_in.Goals as goal

pub returns-in_err-parts : goal.returns-in_err-parts
returns-in_err-parts c = λ bytes reads.
    file_fault bytes c.args.forms.now c.in_err-parts.field-0.0 c.from_residual.result reads
    (subst (λ ts. IsFileRead ts (Err c.in_err-parts.field-0.0)) c.cursor.ensures.rest c.in_err-parts.ensures.read) c.from_residual.ensures.1

pub returns : goal.returns
returns c = λ bytes reads.
    (c.args.forms.now, reads, sym (ap file_reading c.cursor.ensures.rest) ∙ c.in_ok-parts.ensures.read ∙ ap fine (sym c.of_parts.ensures))
