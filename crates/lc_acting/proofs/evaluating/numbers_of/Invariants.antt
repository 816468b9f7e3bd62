use Rattle.std.proofs.Common.{take}
use Rattle.lc_object.specs.View.{terms_of}
use Rattle.lc_term.specs.State.{state_of, column_count}
use Rattle.lc_acting.specs.Acting.{AreNumbers}
use Rattle.lc_acting.proofs.evaluating.numbers_of.Given as goal

-- the numbers so far
abbrev pub invariant-loop-term : goal.invariant-loop-term
invariant-loop-term l = AreNumbers (column_count l.state) (state_of l.state) l.env.values.items (terms_of (take l.term-index l.terms)) l.numbers.items
