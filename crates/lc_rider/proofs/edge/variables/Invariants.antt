use Rattle.std.proofs.Common.{◌≡◌, map}
use Rattle.lc_term.specs.Said.{variables_from}
use Rattle.lc_term.specs.View.{term_of}
use Rattle.lc_rider.proofs.edge.variables.Given as goal

-- the variables so far
abbrev pub invariant-loop-number : goal.invariant-loop-number
invariant-loop-number l = map term_of l.terms.items ≡ variables_from 0 l.number
