use Rattle.lc_reading.proofs.Files.{text_fault}
use Rattle.lc_proof_text.specs.Files.{claim_in, file_reading}
use Rattle.lc_proof_text.proofs.formula.formula_of.Goals as goal

pub returns-in_err-forms-clause-answer : goal.returns-in_err-forms-clause-answer
returns-in_err-forms-clause-answer c =
    text_fault claim_in file_reading c.args.bytes.now _ c.from_residual.result c.in_err-forms.ensures.answer c.from_residual.ensures.1
