use Rattle.lc_proof_state.proofs.Ways.{flaw_stands}
use Rattle.lc_proof_state.proofs.laws.a_flaw_is_told_where_the_step_stands.Goals as goal

pub returns : goal.returns
returns c = λ v H p n why fails. flaw_stands fails
