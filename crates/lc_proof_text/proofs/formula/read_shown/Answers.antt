use Rattle.std.proofs.Common.{codes}
use Rattle.lc_kernel.specs.View.{proof_of}
use Rattle.lc_proof_text.specs.FileNames.{proof_names, declared_of}
use Rattle.lc_proof_text.specs.Files.{only}
use Rattle.lc_proof_text.specs.Proofs.{proof_reading}
use Rattle.lc_proof_text.proofs.formula.read_shown.Goals as goal
use Rattle.lc_reading.proofs.Parts.{behind_read, behind_wrong}

pub returns-in_err-list : goal.returns-in_err-list
returns-in_err-list c =
    behind_wrong proof_of (codes "proof") (only (proof_reading (proof_names (declared_of c.args.declared.now)))) c.args.part _ c.from_residual.result c.in_err-list.ensures c.from_residual.ensures.1

pub returns : goal.returns
returns c =
    behind_read proof_of (codes "proof") (only (proof_reading (proof_names (declared_of c.args.declared.now)))) c.args.part c.in_ok-list.list c.read_only_proof.result c.in_ok-list.ensures c.read_only_proof.ensures
