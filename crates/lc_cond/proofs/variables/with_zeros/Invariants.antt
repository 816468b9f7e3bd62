use Rattle.std.proofs.Common.{◌≡◌, ◌++◌, map, pos}
use Rattle.std.specs.Prelude.{replicate}
use Rattle.lc_term.specs.Syntax.{Number}
use Rattle.lc_term.specs.View.{term_of}
use Rattle.lc_cond.proofs.variables.with_zeros.Given as goal

-- the zeros so far
abbrev pub invariant-loop-place : goal.invariant-loop-place
invariant-loop-place l = map term_of l.terms.items ≡ map term_of l.fn.terms.items ++ replicate l.place (Number (pos 0))
