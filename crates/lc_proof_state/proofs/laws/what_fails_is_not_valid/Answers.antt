use Rattle.lc_proof_state.proofs.Refuted.{not-valid}
use Rattle.lc_proof_state.proofs.laws.what_fails_is_not_valid.Goals as goal

pub returns : goal.returns
returns c = not-valid
