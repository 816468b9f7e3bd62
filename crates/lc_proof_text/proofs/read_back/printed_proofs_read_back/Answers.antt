use Rattle.lc_proof_text.proofs.PrintedProofs.{proof_text}
use Rattle.lc_proof_text.proofs.ProofsBack.{proof_back}
use Rattle.lc_proof_text.proofs.read_back.printed_proofs_read_back.Goals as goal

pub returns-clause-text : goal.returns-clause-text
returns-clause-text c = proof_text

pub returns-clause-back : goal.returns-clause-back
returns-clause-back c = proof_back
