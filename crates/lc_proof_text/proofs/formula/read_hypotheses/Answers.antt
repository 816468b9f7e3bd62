use Rattle.std.proofs.Common.{[], codes}
use Rattle.lc_text.specs.Formulas.{formulas_reading}
use Rattle.lc_text.specs.Seen.{row_of}
use Rattle.lc_proof_text.specs.FileNames.{claim_names, declared_of}
use Rattle.lc_proof_text.proofs.formula.read_hypotheses.Goals as goal
use Rattle.lc_reading.proofs.Parts.{behind_read, behind_wrong}

pub returns-in_err-list : goal.returns-in_err-list
returns-in_err-list c =
    behind_wrong row_of (codes "hyps") (λ n m ts. formulas_reading (claim_names (declared_of c.args.declared.now)) [] m ts) c.args.part _ c.from_residual.result c.in_err-list.ensures c.from_residual.ensures.1

pub returns : goal.returns
returns c =
    behind_read row_of (codes "hyps") (λ n m ts. formulas_reading (claim_names (declared_of c.args.declared.now)) [] m ts) c.args.part c.in_ok-list.list c.read_formulas.result c.in_ok-list.ensures c.read_formulas.ensures
