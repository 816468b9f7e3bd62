use Rattle.lc_term.specs.View.{formula_of, formulas_of}
use Rattle.lc_proof_state.specs.Told.{IsTold}
use Rattle.lc_proof_state.proofs.telling.with_small_numbers.Given as goal

abbrev pub invariant-loop-turn : goal.invariant-loop-turn
invariant-loop-turn l = IsTold l.asked.columns (formulas_of l.asked.hypotheses.now) (formula_of l.asked.goal.now) l.told
