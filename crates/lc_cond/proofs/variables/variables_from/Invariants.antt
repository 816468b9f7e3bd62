use Rattle.std.proofs.Common.{◌≡◌, map}
use Rattle.lc_term.specs.Said.{variables_from}
use Rattle.lc_term.specs.View.{term_of}
use Rattle.lc_cond.proofs.variables.variables_from.Given as goal

-- the variables so far
abbrev pub invariant-loop-place : goal.invariant-loop-place
invariant-loop-place l = map term_of l.terms.items ≡ variables_from l.first l.place
