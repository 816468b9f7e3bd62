use Rattle.std.proofs.Common.{◌≡◌, map, take}
use Rattle.lc_term.specs.Syntax.{Variable}
use Rattle.lc_term.specs.View.{term_of}
use Rattle.lc_action.specs.Action.{acting_variables}
use Rattle.lc_cond.proofs.matching.acting_variables.Given as goal

-- the variables so far
abbrev pub invariant-loop-argument : goal.invariant-loop-argument
invariant-loop-argument l = map term_of l.variables.items ≡ acting_variables (Variable l.client) (map term_of (take l.argument-index l.arguments))
