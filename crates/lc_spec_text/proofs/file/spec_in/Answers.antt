use Rattle.std.proofs.Common.{sym, ap, ◌∙◌}
use Rattle.lc_reading.proofs.Files.{trees_fault}
use Rattle.lc_seq.specs.TextView.{specification_of}
use Rattle.lc_spec_text.specs.Specifications.{first_reading}
use Rattle.lc_spec_text.proofs.file.spec_in.Goals as goal

pub returns-in_err-spec : goal.returns-in_err-spec
returns-in_err-spec c = λ bytes reads.
    trees_fault specification_of first_reading bytes c.args.forms _ c.from_residual.result reads
    (rw c.cursor.ensures.rest at c.in_err-spec.ensures) c.from_residual.ensures.1

pub returns : goal.returns
returns c = λ bytes reads. (c.args.forms, reads, sym (ap first_reading c.cursor.ensures.rest) ∙ c.in_ok-spec.ensures)
