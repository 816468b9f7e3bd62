use Rattle.std.proofs.Common.{length}
use Rattle.lc_kernel.specs.View.{proof_of}
use Rattle.lc_reading.proofs.Combined.{ok_arm, err_arm}
use Rattle.lc_reading.specs.TableView.{listed}
use Rattle.lc_proof_text.proofs.Sections.{both_told}
use Rattle.lc_proof_text.specs.Files.{seen_claim, seen_statement, claim_of}
use Rattle.lc_proof_text.proofs.formula.read_claim.Goals as goal

pub returns-in_err-hypotheses : goal.returns-in_err-hypotheses
returns-in_err-hypotheses c =
    err_arm _ seen_claim _ _ _ _
    (both_told seen_statement proof_of (claim_of (length (listed c.args.declared.now.variables))) _ _ c.read_statement-statement.result c.read_shown-proof.result c.both.result
    c.both.ensures c.read_statement-statement.ensures c.read_shown-proof.ensures)
    c.in_err-hypotheses.was c.from_residual.ensures.1

pub returns : goal.returns
returns c =
    let h = ok_arm _ _ _ _
    (both_told seen_statement proof_of (claim_of (length (listed c.args.declared.now.variables))) _ _ c.read_statement-statement.result c.read_shown-proof.result c.both.result
    c.both.ensures c.read_statement-statement.ensures c.read_shown-proof.ensures)
    c.in_ok-hypotheses.was in rw c.len-variables.ensures h
