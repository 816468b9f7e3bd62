use Rattle.lc_proof_state.proofs.telling.with_small_numbers.Goals as goal
use Rattle.lc_proof_state.proofs.telling.with_small_numbers.Goals.{in-Some-2, in-None}

pub loop-turn-preserved : goal.loop-turn-preserved
loop-turn-preserved c =
    elim c.match-branch-2.branch [
      | in-Some-2 w ↦ rw w.told-is (rw w.in-Some-2.is at c.in_ok-less.ensures)
      | in-None w ↦ rw w.told-is c.loop-turn.invariant
    ]
