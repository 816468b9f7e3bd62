use Rattle.std.proofs.Common.{codes}
use Rattle.lc_proof_text.specs.Files.{seen_claim, sections_reading}
use Rattle.lc_proof_text.proofs.formula.read_form.Goals as goal
use Rattle.lc_reading.proofs.Parts.{behind_read, behind_wrong}

pub returns-in_err-list : goal.returns-in_err-list
returns-in_err-list c =
    behind_wrong seen_claim (codes "formula") sections_reading c.args.part _ c.from_residual.result c.in_err-list.ensures c.from_residual.ensures.1

pub returns : goal.returns
returns c =
    behind_read seen_claim (codes "formula") sections_reading c.args.part c.in_ok-list.list c.read_sections.result c.in_ok-list.ensures c.read_sections.ensures
