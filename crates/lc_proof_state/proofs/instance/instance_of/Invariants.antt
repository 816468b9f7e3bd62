use Rattle.std.proofs.Common.{◌≡◌}
use Rattle.lc_term.specs.View.{formula_of}
use Rattle.lc_proof_state.specs.Instance.{instance_at}
use Rattle.lc_proof_state.proofs.instance.instance_of.Given as goal

abbrev pub invariant-loop-witness : goal.invariant-loop-witness
invariant-loop-witness l = formula_of l.instance.goal ≡ instance_at l.instance.numbers.items (formula_of l.goal)
