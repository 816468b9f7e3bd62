use Rattle.lc_reading.proofs.Combined.{ok_arm, err_arm}
use Rattle.lc_proof_text.specs.FileNames.{declared_of}
use Rattle.lc_proof_text.specs.Files.{seen_claim}
use Rattle.lc_proof_text.proofs.Sections.{sections_read}
use Rattle.lc_proof_text.proofs.formula.read_sections.Goals as goal

pub returns : goal.returns
returns c =
    ok_arm _ _ _ _
    (sections_read c.args.list c.next_part.new.list c.next_part-2.new.list c.next_part-3.new.list c.next_part-4.new.list c.next_part-5.new.list
    c.in_ok-variables.variables c.in_ok-columns.columns c.in_ok-hypotheses.hypotheses c.in_ok-goal.goal c.in_ok-proof.proof (declared_of c.in_ok-declared.declared)
    c.in_ok-declared.wrong c.read_claim-claim.result c.both.result c.ended.result
    c.in_ok-variables.ensures c.in_ok-columns.ensures c.in_ok-hypotheses.ensures c.in_ok-goal.ensures c.in_ok-proof.ensures
    c.in_ok-declared.ensures.names c.in_ok-declared.ensures.wrong c.read_claim-claim.ensures c.both.ensures c.ended.ensures)
    c.in_ok-claim.was

pub returns-in_err-claim : goal.returns-in_err-claim
returns-in_err-claim c =
    err_arm _ seen_claim _ _ _ _
    (sections_read c.args.list c.next_part.new.list c.next_part-2.new.list c.next_part-3.new.list c.next_part-4.new.list c.next_part-5.new.list
    c.in_ok-variables.variables c.in_ok-columns.columns c.in_ok-hypotheses.hypotheses c.in_ok-goal.goal c.in_ok-proof.proof (declared_of c.in_ok-declared.declared)
    c.in_ok-declared.wrong c.read_claim-claim.result c.both.result c.ended.result
    c.in_ok-variables.ensures c.in_ok-columns.ensures c.in_ok-hypotheses.ensures c.in_ok-goal.ensures c.in_ok-proof.ensures
    c.in_ok-declared.ensures.names c.in_ok-declared.ensures.wrong c.read_claim-claim.ensures c.both.ensures c.ended.ensures)
    c.in_err-claim.was c.from_residual-in_err-claim.ensures.1
