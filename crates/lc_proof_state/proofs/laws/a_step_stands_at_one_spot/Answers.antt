use Rattle.lc_proof_state.proofs.Ways.{one_spot}
use Rattle.lc_proof_state.proofs.laws.a_step_stands_at_one_spot.Goals as goal

pub returns : goal.returns
returns c = λ v H p n u u' G G' q q' st st'. one_spot st st'
