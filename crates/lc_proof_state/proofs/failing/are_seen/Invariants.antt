use Rattle.std.proofs.Common.{◌↔◌, drop}
use Rattle.lc_term.specs.Lists.{Every}
use Rattle.lc_term.specs.View.{formulas_of}
use Rattle.lc_proof_state.specs.Failing.{IsSeen}
use Rattle.lc_proof_state.proofs.failing.are_seen.Given as goal

-- what is left decides the answer
abbrev pub invariant-loop-formula : goal.invariant-loop-formula
invariant-loop-formula l =
    Every (IsSeen l.state l.env) (formulas_of l.formulas) ↔ Every (IsSeen l.state l.env) (formulas_of (drop l.formula-index l.formulas))
