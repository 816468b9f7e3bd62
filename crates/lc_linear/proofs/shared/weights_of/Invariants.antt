use Rattle.lc_linear.specs.Owed.{AreWeights}
use Rattle.lc_linear.proofs.shared.weights_of.Given as goal

-- what is listed are weights
abbrev pub invariant-loop-node : goal.invariant-loop-node
invariant-loop-node l = AreWeights l.terms l.weights.entries
