use Rattle.lc_proof_state.specs.Situation.{AreNumbers}
use Rattle.lc_proof_state.proofs.situation.initial_numbers.Given as goal

abbrev pub invariant-loop-column : goal.invariant-loop-column
invariant-loop-column l = AreNumbers l.content l.column l.numbers.items
